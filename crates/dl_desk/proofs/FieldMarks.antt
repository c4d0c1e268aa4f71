-- What cutting, showing and preparing leave of a desk's fields.
use Rattle.std.proofs.Common.{◌≡◌, ◌∙◌, sym, ap, true, false, ℕ, ◌+◌, ◌<◌, ◌≤◌, inl, inr, min, max, List, [], ◌∷◌, ◌++◌, length, map, set, take}
use Rattle.std.proofs.Common.{Bool, nat_eq, ◌||◌, Option, Some, None, IsSome, option_map, slice_get, refl, arith, length-append}
use Rattle.std.specs.List.{list_any}
use Rattle.std.proofs.lemmas.List.Folds.{list_any-append}
use Rattle.std.proofs.lemmas.Bool.{cases_lt, cases_eq, true≢false, eq-eqb, or_parts}
use Rattle.std.proofs.lemmas.Option.{slice_get-map, slice_get_past}
use Rattle.std.specs.Map.{lookup}
use Rattle.std.proofs.lemmas.List.{map-append, map-set, length-set, length-map, length-take, take_all, take-take, take-append-le}
use Rattle.dl_values.specs.Key.{Key, key_eq}
use Rattle.dl_desk.specs.Inside.StoredBatch.{StoredBatch, blank}
use Rattle.dl_desk.specs.BatchBook.{Batch}
use Rattle.dl_desk.specs.Inside.Preparation.{prepared_batch, shown_batch, empty, Same, members_of}
use Rattle.dl_desk.specs.Inside.Marks.{DeskFields, IsStored, IsShown, IsDesk, MakesRoom, IsAdded}
use Rattle.dl_desk.specs.Inside.TableBook.{TableBook, untouched, AreTouched, both, FitTables}
use Rattle.dl_desk.specs.declared.desk.Extent.{Extent}
use Rattle.dl_desk.proofs.Tails.{get-append_left, get-append_last, get-set_other, map-set_unseen, same_all}
use Rattle.dl_desk.proofs.TableLemmas.{fit_cut, fit_shown, one_of}
use Rattle.dl_desk.proofs.MemoMembers.{held_none, held_more, held_same, held_grows, put_held, put_unseen}

-- ---- cutting and showing

-- where a list has the same batches prepared and shown, nothing is prepared
none_prepared : (xs : List StoredBatch) → map shown_batch xs ≡ map prepared_batch xs → (b : ℕ) (x : StoredBatch) → slice_get xs b ≡ Some x
    → shown_batch x ≡ prepared_batch x
none_prepared xs same b x at =
    let f : slice_get (map shown_batch xs) b ≡ Some (shown_batch x) = rw (slice_get-map shown_batch xs b, at) refl in
    let w : slice_get (map prepared_batch xs) b ≡ Some (prepared_batch x) = rw (slice_get-map prepared_batch xs b, at) refl in
    let g : slice_get (map prepared_batch xs) b ≡ Some (shown_batch x) = rw same at f in
    let e : ◌≡◌ {A = Option Batch} (Some (shown_batch x)) (Some (prepared_batch x)) = sym g ∙ w in
    cc

pub desk_cut : (d : DeskFields) (left : List (Key × ℕ)) (ys : List StoredBatch) → IsDesk d → map prepared_batch ys ≡ map shown_batch d.batches
    → map shown_batch ys ≡ map shown_batch d.batches → left ≡ take d.shown_memo d.memo
    → IsDesk (record d { tables = option_map untouched d.tables; memo = left; batches = ys; prepared = d.shown; is_prepared = false; touched = d.shown.begun })
desk_cut d left ys is w f front = record {
  prepared_book = rw w is.shown_book;
  shown_book = rw f is.shown_book;
  later = omega arith;
  tables = rw (w, f) (fit_cut d.max_batch (both d.shown.begun d.prepared.begun d.batches) ys d.tables (none_prepared ys (f ∙ sym w)) is.tables);
  memo = omega (arith, all);
  same = λ b outside x at. none_prepared ys (f ∙ sym w) b x at;
  unmarked = λ _. record { extent = refl; all_memo = all; none_touched = refl };
  prepared_held = held_same d.forgotten (take d.shown_memo d.memo) left (map shown_batch d.batches) (map prepared_batch ys) front w is.shown_held;
  shown_held = held_same d.forgotten (take d.shown_memo d.memo) (take d.shown_memo left) (map shown_batch d.batches) (map shown_batch ys)
      (ap (take d.shown_memo) front ∙ take-take d.shown_memo d.shown_memo d.memo (omega arith)) f is.shown_held;
}
  where
    all : length left ≡ d.shown_memo
    all = rw (front, length-take) (let m = is.memo in omega arith)

pub desk_shown : (d : DeskFields) (ys : List StoredBatch) → IsDesk d → map prepared_batch ys ≡ map prepared_batch d.batches
    → map shown_batch ys ≡ map prepared_batch d.batches
    → IsDesk (record d {
      tables = option_map untouched d.tables;
      batches = ys;
      shown = d.prepared;
      shown_memo = length d.memo;
      is_prepared = false;
      touched = d.prepared.begun;
    })
desk_shown d ys is w f = record {
  prepared_book = rw w is.prepared_book;
  shown_book = rw f is.prepared_book;
  later = omega arith;
  tables = rw (w, f) (fit_shown d.max_batch (both d.shown.begun d.prepared.begun d.batches) ys d.tables (none_prepared ys (f ∙ sym w)) is.tables);
  memo = omega arith;
  same = λ b outside x at. none_prepared ys (f ∙ sym w) b x at;
  unmarked = λ _. record { extent = refl; all_memo = refl; none_touched = refl };
  prepared_held = held_same d.forgotten d.memo d.memo (map prepared_batch d.batches) (map prepared_batch ys) refl w is.prepared_held;
  shown_held = held_same d.forgotten d.memo (take (length d.memo) d.memo) (map prepared_batch d.batches) (map shown_batch ys)
      (take_all (length d.memo) d.memo (omega arith)) f is.prepared_held;
}

-- ---- the memo

-- it holds one key more, of the cell that is begun next
pub desk_noted : (d : DeskFields) (e : Key × ℕ) → IsDesk d → d.prepared.cells < d.max_cells
    → IsDesk (record d { memo = d.memo ++ e ∷ []; prepared = record d.prepared { cells = d.prepared.cells + 1 }; is_prepared = true })
desk_noted d e is room = record {
  prepared_book = record {
    all_sent = is.prepared_book.all_sent;
    all_stored = is.prepared_book.all_stored;
    few = let f = is.prepared_book.few in omega arith;
    within = omega arith;
    spare = is.prepared_book.spare;
  };
  shown_book = is.shown_book;
  later = is.later;
  tables = is.tables;
  memo = rw length-append (let m = is.memo in omega arith);
  same = is.same;
  unmarked = λ marked. absurd (true≢false marked);
  prepared_held = held_more d.forgotten d.memo e (map prepared_batch d.batches) is.prepared_held;
  shown_held = held_same d.forgotten (take d.shown_memo d.memo) (take d.shown_memo (d.memo ++ e ∷ [])) (map shown_batch d.batches) (map shown_batch d.batches)
      (take-append-le d.shown_memo d.memo (e ∷ []) is.memo) refl is.shown_held;
}

-- keys were forgotten
pub desk_forgot : (d : DeskFields) (left : List (Key × ℕ)) → IsDesk d
    → IsDesk (record d { memo = left; shown_memo = length left; forgotten = d.prepared.begun })
desk_forgot d left is = record {
  prepared_book = is.prepared_book;
  shown_book = is.shown_book;
  later = is.later;
  tables = is.tables;
  memo = omega arith;
  same = is.same;
  unmarked = λ marked. let s = is.unmarked marked in record { extent = s.extent; all_memo = refl; none_touched = s.none_touched };
  prepared_held = held_none d.prepared d.max_cells d.prepared.begun left (map prepared_batch d.batches) is.prepared_book (omega arith);
  shown_held = held_none d.shown d.max_cells d.prepared.begun (take (length left) left) (map shown_batch d.batches) is.shown_book is.later;
}

-- ---- one more batch

pub stored_grown : (e : Extent) (most : ℕ) (xs : List Batch) → IsStored e most xs → IsStored e most (xs ++ empty ∷ [])
stored_grown e most xs is = record {
  all_sent = is.all_sent;
  all_stored = rw length-append (let s = is.all_stored in omega arith);
  few = is.few;
  within = is.within;
  spare = λ b high low. elim (cases_lt b (length xs)) [
    | inl inside ↦ get-append_left xs (empty ∷ []) b inside ∙ is.spare b high inside
    | inr last ↦ get-append_last xs empty b (let l : b < length xs + 1 = rw length-append at low in omega arith)
  ];
}

-- what the last place of a grown list has
blank_last : (xs : List StoredBatch) (b : ℕ) (x : StoredBatch) → b ≡ length xs → slice_get (xs ++ blank ∷ []) b ≡ Some x → blank ≡ x
blank_last xs b x last at = let e : ◌≡◌ {A = Option StoredBatch} (Some blank) (Some x) = sym (get-append_last xs blank b last) ∙ at in cc

same_grown : (from to : ℕ) (xs : List StoredBatch) → Same from to xs → Same from to (xs ++ blank ∷ [])
same_grown from to xs same b outside x at = elim (cases_lt b (length xs)) [
  | inl inside ↦ same b outside x (sym (get-append_left xs (blank ∷ []) b inside) ∙ at)
  | inr above ↦ elim (cases_eq b (length xs)) [
    | inl last ↦ rw (← blank_last xs b x last at) refl
    | inr past ↦ let none : slice_get (xs ++ blank ∷ []) b ≡ None = slice_get_past (xs ++ blank ∷ []) b (rw length-append (omega arith)) in
        absurd (let bad : ◌≡◌ {A = Option StoredBatch} None (Some x) = sym none ∙ at in cc)
  ]
]

-- the grown batches are stored as well
pub stored_grows : (e : Extent) (most : ℕ) (xs grown : List StoredBatch) → IsStored e most (map prepared_batch xs) → MakesRoom xs grown
    → IsStored e most (map prepared_batch grown)
stored_grows e most xs grown is (inl same) = rw same is
stored_grows e most xs grown is (inr one) = rw (one, map-append) (stored_grown e most (map prepared_batch xs) is)

shown_grows : (e : Extent) (most : ℕ) (xs grown : List StoredBatch) → IsStored e most (map shown_batch xs) → MakesRoom xs grown
    → IsStored e most (map shown_batch grown)
shown_grows e most xs grown is (inl same) = rw same is
shown_grows e most xs grown is (inr one) = rw (one, map-append) (stored_grown e most (map shown_batch xs) is)

same_grows : (from to : ℕ) (xs grown : List StoredBatch) → Same from to xs → MakesRoom xs grown → Same from to grown
same_grows from to xs grown same (inl is) = rw is same
same_grows from to xs grown same (inr one) = rw one (same_grown from to xs same)

pub desk_grown : (d : DeskFields) (tables : Option TableBook) (ys : List StoredBatch) → IsDesk d → MakesRoom d.batches ys
    → FitTables d.max_batch (both d.shown.begun d.prepared.begun ys) tables → IsDesk (record d { tables = tables; batches = ys; is_prepared = true })
desk_grown d tables ys is room fit = record {
  prepared_book = stored_grows d.prepared d.max_cells d.batches ys is.prepared_book room;
  shown_book = shown_grows d.shown d.max_cells d.batches ys is.shown_book room;
  later = is.later;
  tables = fit;
  memo = is.memo;
  same = same_grows d.touched d.prepared.begun d.batches ys is.same room;
  unmarked = λ e. absurd (true≢false e);
  prepared_held = held_grows prepared_batch d.forgotten d.memo d.batches ys refl is.prepared_held room;
  shown_held = held_grows shown_batch d.forgotten (take d.shown_memo d.memo) d.batches ys refl is.shown_held room;
}

-- ---- the batches that are touched

pub touched_grown : (ts : List ℕ) (xs ys : List StoredBatch) → AreTouched ts xs → MakesRoom xs ys → AreTouched ts ys
touched_grown ts xs ys are (inl same) = rw same are
touched_grown ts xs ys are (inr one) = rw one (record {
  within = λ b is. rw length-append (let l = are.within b is in omega arith);
  same = λ b x at none. elim (cases_lt b (length xs)) [
    | inl inside ↦ are.same b x (sym (get-append_left xs (blank ∷ []) b inside) ∙ at) none
    | inr above ↦ elim (cases_eq b (length xs)) [
      | inl last ↦ rw (← blank_last xs b x last at) refl
      | inr past ↦ let none : slice_get (xs ++ blank ∷ []) b ≡ None = slice_get_past (xs ++ blank ∷ []) b (rw length-append (omega arith)) in
          absurd (let bad : ◌≡◌ {A = Option StoredBatch} None (Some x) = sym none ∙ at in cc)
    ]
  ];
})

-- one batch more is touched
pub touched_put : (ts : List ℕ) (xs ys : List StoredBatch) (n : ℕ) (m : Key × ℕ) → AreTouched ts xs → IsAdded xs n m ys → AreTouched (ts ++ n ∷ []) ys
touched_put ts xs ys n m are added = record {
  within = λ b is. rw (added.is, length-set) (inside b (list_any (nat_eq b) ts) refl (rw (list_any-append (nat_eq b) ts (n ∷ [])) at is));
  same = λ b x at none.
      let apart = or_parts (list_any (nat_eq b) ts) (list_any (nat_eq b) (n ∷ [])) (rw (list_any-append (nat_eq b) ts (n ∷ [])) at none) in
      let other : b ≡ n → ⊥ = λ e. true≢false (sym (rw (eq-eqb b n e) refl) ∙ apart.1) in
      let here : slice_get (set added.grown n added.then) b ≡ Some x = rw added.is at at in
      grown.same b x (sym (get-set_other added.grown n b added.then other) ∙ here) apart.0;
}
  where
    grown : AreTouched ts added.grown
    grown = touched_grown ts xs added.grown are added.grows

    inside : (b : ℕ) (t : Bool) → list_any (nat_eq b) ts ≡ t → (t || list_any (nat_eq b) (n ∷ [])) ≡ true → b < length added.grown
    inside b true old is = grown.within b old
    inside b false old is = let e : b ≡ n = one_of b n is in let l = added.low in omega arith

-- ---- one more member

-- how far the batches go with one more member in one of them
abbrev pub with_member : Extent → ℕ → Extent
with_member e n = record e { begun = max e.begun (n + 1) }

stored_put : (e : Extent) (most n : ℕ) (xs : List Batch) (y : Batch) → IsStored e most xs → n < length xs → n ≤ e.begun → e.begun < e.cells
    → IsStored (with_member e n) most (set xs n y)
stored_put e most n xs y is low next room = record {
  all_sent = let s = is.all_sent in omega arith;
  all_stored = rw length-set (let s = is.all_stored in omega arith);
  few = omega arith;
  within = is.within;
  spare = λ b high inside. get-set_other xs n b y (λ same. absurd (omega arith)) ∙ is.spare b (omega arith) (rw length-set at inside);
}

pub desk_put : (d : DeskFields) (tables : Option TableBook) (n : ℕ) (m : Key × ℕ) (ys : List StoredBatch) → IsDesk d → IsAdded d.batches n m ys
    → n ≤ d.prepared.begun → d.prepared.begun < d.prepared.cells → IsSome (lookup (key_eq m.0) d.memo)
    → FitTables d.max_batch (both d.shown.begun (max d.prepared.begun (n + 1)) ys) tables
    → IsDesk (record d { tables = tables; batches = ys; prepared = with_member d.prepared n; is_prepared = true; touched = min d.touched n })
desk_put d tables n m ys is added next room some fit = record {
  prepared_book
      = rw (
        added.is,
        map-set,
      )
      (stored_put d.prepared d.max_cells n (map prepared_batch added.grown) (prepared_batch added.then)
      (stored_grows d.prepared d.max_cells d.batches added.grown is.prepared_book added.grows) (rw length-map added.low) next room);
  shown_book = rw (added.is, map-set_unseen shown_batch added.grown n added.before added.then added.at added.shown)
      (shown_grows d.shown d.max_cells d.batches added.grown is.shown_book added.grows);
  later = let l = is.later in omega arith;
  tables = fit;
  memo = is.memo;
  same = λ b outside x at.
      let ne : b ≡ n → ⊥ = λ e. elim outside [ inl below ↦ omega arith | inr above ↦ omega arith ] in
      same_grows d.touched d.prepared.begun d.batches added.grown is.same added.grows b
      (elim outside [ inl below ↦ inl (omega arith) | inr above ↦ inr (omega arith) ]) x
      (sym (get-set_other added.grown n b added.then ne) ∙ (let here : slice_get (set added.grown n added.then) b ≡ Some x = rw added.is at at in here));
  unmarked = λ e. absurd (true≢false e);
  prepared_held = put_held d.forgotten n d.memo m d.batches ys added some is.prepared_held;
  shown_held = put_unseen d.forgotten n (take d.shown_memo d.memo) m d.batches ys added is.shown_held;
}

-- the members of a batch, of which the next one has none before it is added
pub grown_members : (xs grown : List StoredBatch) (n : ℕ) (x : StoredBatch) → MakesRoom xs grown → slice_get grown n ≡ Some x → n ≤ length xs
    → x.members ≡ members_of (slice_get (map prepared_batch xs) n)
grown_members xs grown n x (inl same) at low =
    let here : slice_get xs n ≡ Some x = rw same at at in
    let is : slice_get (map prepared_batch xs) n ≡ Some (prepared_batch x) = rw (slice_get-map prepared_batch xs n, here) refl in
    rw is refl
grown_members xs grown n x (inr one) at low = elim (cases_lt n (length xs)) [
  | inl inside ↦
      let here : slice_get xs n ≡ Some x = sym (get-append_left xs (blank ∷ []) n inside) ∙ (rw one at at) in
      let is : slice_get (map prepared_batch xs) n ≡ Some (prepared_batch x) = rw (slice_get-map prepared_batch xs n, here) refl in
      rw is refl
  | inr above ↦
      let last : n ≡ length xs = omega arith in
      let e : ◌≡◌ {A = Option StoredBatch} (Some blank) (Some x) = sym (get-append_last xs blank n last) ∙ (rw one at at) in
      let is : blank ≡ x = cc in
      let past : slice_get (map prepared_batch xs) n ≡ None = slice_get_past (map prepared_batch xs) n (rw length-map (omega arith)) in
      rw (past, ← is) refl
]

-- where nothing is prepared, the two books have the same entries and the same batches
pub desk_unprepared : (d : DeskFields) → IsDesk d → IsShown d → (take d.shown_memo d.memo ≡ d.memo) × (map shown_batch d.batches ≡ map prepared_batch d.batches)
desk_unprepared d is shown = (
  rw (← shown.all_memo) (take_all (length d.memo) d.memo (omega arith)),
  same_all d.touched d.prepared.begun d.batches (let t = shown.none_touched in omega arith) is.same,
)
