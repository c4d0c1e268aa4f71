-- What is told of the newest batches, as batches are begun, shown and taken back.
use Rattle.std.proofs.Common.{◌≡◌, ◌∙◌, sym, ap, ℕ, zero, suc, ◌+◌, ◌<◌, ◌≤◌, Bool, true, false, ◌&&◌, ◌||◌, not, cond, true≢false, refl, arith}
use Rattle.std.proofs.Common.{List, [], ◌∷◌, ◌++◌, length, map, set, take, drop, get_or, slice_get, Option, Some, None, IfSome, option_map, inl, inr}
use Rattle.std.proofs.Common.{nat_eq, nat_le, nat_lt, bytes_eq}
use Rattle.std.specs.List.{list_any}
use Rattle.std.proofs.lemmas.Bool.{cases_eq, cases_lt, eqb-true, eq-eqb}
use Rattle.std.proofs.lemmas.Cmp.{nat_list_eq_equiv}
use Rattle.std.proofs.lemmas.List.{length-take, length-set, drop_more, drop_all}
use Rattle.std.proofs.lemmas.Option.{slice_get_past, slice_get_read}
use Rattle.dl_values.specs.Key.{Key}
use Rattle.dl_values.specs.Limits.{limit_by}
use Rattle.dl_values.proofs.Repeats.{bytes_eq-comm}
use Rattle.dl_values.proofs.Names.{bytes_eq-same}
use Rattle.dl_desk.specs.History.{is_of_table, has_member, greatest, serves}
use Rattle.dl_desk.specs.Inside.StoredBatch.{StoredBatch}
use Rattle.dl_desk.specs.BatchBook.{Batch, BatchBook}
use Rattle.dl_desk.specs.Inside.Preparation.{prepared_batch, shown_batch, members_of, members_at, put_member, room_of, book_room}
use Rattle.dl_desk.specs.Inside.Marks.{IsStored}
use Rattle.dl_desk.specs.declared.desk.Extent.{Extent}
use Rattle.dl_desk.specs.declared.table_book.Newest.{Newest}
use Rattle.dl_desk.specs.Inside.TableBook.{TableBook, told, untouched, is_of, newest_at, TellsNewest, TellsLimits, AreTouched, TouchedBy, BothBatches}
use Rattle.dl_desk.specs.Inside.TableBook.{TellsTheSame, AreTables, FitTables, Renews, renewed, IsNewest, open_at, open_for, IsOf}
use Rattle.dl_desk.proofs.Facts.{greatest-below}
use Rattle.dl_desk.proofs.LawBatches.{greatest-passes}
use Rattle.dl_desk.proofs.Tails.{get-set_same, get-set_other, map-set_unseen, same_each}
use Rattle.dl_desk.proofs.OpenBatch.{greatest-same}
use Rattle.dl_desk.proofs.NewMember.{length-put_member, length-put_member_new, get-put_member, get-put_member_new, get-put_member_other}

-- ---- where batches may mix tables

pub no_tables : (t : Option TableBook) → ◌≡◌ {A = Option (List (List ℕ × ℕ))} (option_map (λ (b : TableBook). b.limits) t) None → t ≡ None
no_tables None is = refl
no_tables (Some b) is = absurd (let bad : ◌≡◌ {A = Option (List (List ℕ × ℕ))} (Some b.limits) None = is in cc)

pub fit_none : (most : ℕ) (b : BothBatches) (t : Option TableBook) → t ≡ None → FitTables most b t
fit_none most b t is = rw is tt

-- ---- taking back and showing

touches_none : (ys : List StoredBatch) → ((b : ℕ) (x : StoredBatch) → slice_get ys b ≡ Some x → shown_batch x ≡ prepared_batch x) → AreTouched [] ys
touches_none ys same = record { within = λ b is. absurd (true≢false (sym is)); same = λ b x at none. same b x at }

pub fit_cut : (most : ℕ) (b : BothBatches) (ys : List StoredBatch) (t : Option TableBook)
    → ((n : ℕ) (x : StoredBatch) → slice_get ys n ≡ Some x → shown_batch x ≡ prepared_batch x) → FitTables most b t
    → FitTables most (record { stored = ys; shown = b.shown; prepared = b.shown }) (option_map untouched t)
fit_cut most b ys None same fit = tt
fit_cut most b ys (Some t) same fit = record {
  tells_shown = fit.tells_shown;
  tells_prepared = fit.tells_shown;
  limits = fit.limits;
  touched = touches_none ys same;
}

pub fit_shown : (most : ℕ) (b : BothBatches) (ys : List StoredBatch) (t : Option TableBook)
    → ((n : ℕ) (x : StoredBatch) → slice_get ys n ≡ Some x → shown_batch x ≡ prepared_batch x) → FitTables most b t
    → FitTables most (record { stored = ys; shown = b.prepared; prepared = b.prepared }) (option_map untouched t)
fit_shown most b ys None same fit = tt
fit_shown most b ys (Some t) same fit = record {
  tells_shown = fit.tells_prepared;
  tells_prepared = fit.tells_prepared;
  limits = fit.limits;
  touched = touches_none ys same;
}

-- the same batches, of which others may be touched
pub fit_stored : (most : ℕ) (b : BothBatches) (ys : List StoredBatch) (t : Option TableBook) → TouchedBy t ys → FitTables most b t
    → FitTables most (record { stored = ys; shown = b.shown; prepared = b.prepared }) t
fit_stored most b ys None touched fit = tt
fit_stored most b ys (Some t) touched fit = record {
  tells_shown = fit.tells_shown;
  tells_prepared = fit.tells_prepared;
  limits = fit.limits;
  touched = touched;
}

pub touched_by : (most : ℕ) (b : BothBatches) (t : Option TableBook) → FitTables most b t → TouchedBy t b.stored
touched_by most b None fit = tt
touched_by most b (Some t) fit = fit.touched

-- ---- touched batches

not_same : (b n : ℕ) → (b ≡ n → ⊥) → nat_eq b n ≡ false
not_same b n other = by (nat_eq b n) refl
  where
    by : (t : Bool) → nat_eq b n ≡ t → nat_eq b n ≡ false
    by true is = absurd (other (eqb-true b n is))
    by false is = is

or_none : (a b : Bool) → a ≡ false → b ≡ false → (a || b) ≡ false
or_none false false p q = refl
or_none true b p q = p
or_none false true p q = q

or_some : (a b : Bool) → b ≡ true → (a || b) ≡ true
or_some true b e = refl
or_some false b e = e

pub one_of : (b n : ℕ) → list_any (nat_eq b) (n ∷ []) ≡ true → b ≡ n
one_of b n is = by (nat_eq b n) refl is
  where
    by : (t : Bool) → nat_eq b n ≡ t → (t || false) ≡ true → b ≡ n
    by true e h = eqb-true b n e
    by false e h = absurd (true≢false (sym h))

-- a turn of the loop that takes back or shows: the batch was x and is y
pub touched_turn : (f : StoredBatch → Batch) (ts : List ℕ) (i n : ℕ) (xs first : List StoredBatch) (x y : StoredBatch) → i < length ts → n ≡ get_or ts i 0
    → x ≡ get_or xs n x → shown_batch y ≡ prepared_batch y → f y ≡ f x → AreTouched (drop i ts) xs × (map f xs ≡ map f first)
    → AreTouched (drop (i + 1) ts) (set xs n y) × (map f (set xs n y) ≡ map f first)
touched_turn f ts i n xs first x y low at read done unseen inv = (
  record {
    within = λ b is. rw length-set (before.within b (or_some (nat_eq b n) (list_any (nat_eq b) (drop (i + 1) ts)) is));
    same = λ b z got none. elim (cases_eq b n) [
      | inl here ↦
          let two : ◌≡◌ {A = Option StoredBatch} (Some y) (Some z) = sym (get-set_same xs n y inside) ∙ (rw here at got) in
          let is : y ≡ z = cc in
          rw (← is) done
      | inr other ↦ before.same b z (sym (get-set_other xs n b y other) ∙ got)
          (or_none (nat_eq b n) (list_any (nat_eq b) (drop (i + 1) ts)) (not_same b n other) none)
    ];
  },
  map-set_unseen f xs n x y (slice_get_read xs (length xs) n x refl inside read) unseen ∙ inv.1,
)
  where
    step : drop i ts ≡ n ∷ drop (i + 1) ts
    step = drop_more ts i 0 low ∙ ap (λ (m : ℕ). m ∷ drop (i + 1) ts) (sym at)

    before : AreTouched (n ∷ drop (i + 1) ts) xs
    before = rw step at inv.0

    inside : n < length xs
    inside = before.within n (rw (eq-eqb n n refl) refl)

pub touched_inside : (ts : List ℕ) (i n : ℕ) (xs : List StoredBatch) → i < length ts → n ≡ get_or ts i 0 → AreTouched (drop i ts) xs → n < length xs
touched_inside ts i n xs low at are =
    let step : drop i ts ≡ n ∷ drop (i + 1) ts = drop_more ts i 0 low ∙ ap (λ (m : ℕ). m ∷ drop (i + 1) ts) (sym at) in
    let before : AreTouched (n ∷ drop (i + 1) ts) xs = rw step at are in
    before.within n (rw (eq-eqb n n refl) refl)

-- after the last turn nothing is prepared
pub touched_all : (ts : List ℕ) (i : ℕ) (xs : List StoredBatch) → length ts ≤ i → AreTouched (drop i ts) xs → map shown_batch xs ≡ map prepared_batch xs
touched_all ts i xs high are = same_each xs (λ b x at. are.same b x at (rw (drop_all i ts high) refl))

-- ---- batches of the same tables

newest_same : (xs ys : List Batch) (table : List ℕ) (o : Option Newest) → ((b : ℕ) → is_of ys table b ≡ is_of xs table b)
    → newest_at ys table o ≡ newest_at xs table o
newest_same xs ys table None same = refl
newest_same xs ys table (Some e) same = rw (same e.latest) refl

-- as many batches, of the same tables
pub record AreAlike (xs ys : List Batch) : Type 0 where
  pub long : length ys ≡ length xs
  pub same : (table : List ℕ) (b : ℕ) → is_of ys table b ≡ is_of xs table b

pub tells-same : (xs ys : List Batch) (newest : List ℕ → Option Newest) → AreAlike xs ys → TellsNewest xs newest → TellsNewest ys newest
tells-same xs ys newest alike tells table =
    ap (greatest (is_of ys table)) alike.long
    ∙ greatest-same (is_of ys table) (is_of xs table) (length xs) (λ b low. alike.same table b)
    ∙ tells table
    ∙ sym (newest_same xs ys table (newest table) (alike.same table))

pub fit_same : (most : ℕ) (b c : BothBatches) (t : Option TableBook) → TouchedBy t c.stored → AreAlike b.shown c.shown → AreAlike b.prepared c.prepared
    → FitTables most b t → FitTables most c t
fit_same most b c None touched s p fit = tt
fit_same most b c (Some t) touched s p fit = record {
  tells_shown = tells-same b.shown c.shown (told t) s fit.tells_shown;
  tells_prepared = tells-same b.prepared c.prepared (told t) p fit.tells_prepared;
  limits = fit.limits;
  touched = touched;
}

-- a batch with the same members
is_of-set : (k n : ℕ) (xs : List Batch) (x y : Batch) → slice_get xs n ≡ Some x → y.members ≡ x.members → (table : List ℕ) (b : ℕ)
    → is_of (take k (set xs n y)) table b ≡ is_of (take k xs) table b
is_of-set zero n xs x y at same table b = refl
is_of-set (suc k) n [] x y at same table b = refl
is_of-set (suc k) zero (z ∷ xs) x y at same table zero =
    let two : ◌≡◌ {A = Option Batch} (Some z) (Some x) = at in
    let is : z ≡ x = cc in
    ap (is_of_table table) (same ∙ ap (λ (a : Batch). a.members) (sym is))
is_of-set (suc k) zero (z ∷ xs) x y at same table (suc b) = refl
is_of-set (suc k) (suc n) (z ∷ xs) x y at same table zero = refl
is_of-set (suc k) (suc n) (z ∷ xs) x y at same table (suc b) = is_of-set k n xs x y at same table b

pub alike_set : (k n : ℕ) (xs : List Batch) (x y : Batch) → slice_get xs n ≡ Some x → y.members ≡ x.members → AreAlike (take k xs) (take k (set xs n y))
alike_set k n xs x y at same = record {
  long = rw (length-take, length-take, length-set) refl;
  same = is_of-set k n xs x y at same;
}

-- ---- one more member of a batch

first_stays : (table of : List ℕ) (ms : List (Key × ℕ)) (m : Key × ℕ) → is_of_table of ms ≡ true → is_of_table table (ms ++ m ∷ []) ≡ is_of_table table ms
first_stays table of [] m some = absurd (true≢false (sym some))
first_stays table of (n ∷ ms) m some = refl

-- the batch stays of its table
is_of-put : (xs : List Batch) (n : ℕ) (m : Key × ℕ) (of : List ℕ) → n < length xs → is_of xs of n ≡ true → (table : List ℕ) (b : ℕ)
    → is_of (put_member xs n m) table b ≡ is_of xs table b
is_of-put xs n m of low some table b = elim (cases_eq b n) [
  | inl here ↦ rw here (by (slice_get xs n) refl)
  | inr apart ↦ rw (get-put_member_other xs n b m (omega arith) apart) refl
]
  where
    by : (o : Option Batch) → slice_get xs n ≡ o → is_of (put_member xs n m) table n ≡ is_of xs table n
    by None at = absurd (true≢false (sym some ∙ ap (λ (o : Option Batch). is_of_table of (members_of o)) at))
    by (Some x) at =
        let one : is_of_table of x.members ≡ true = ap (λ (o : Option Batch). is_of_table of (members_of o)) (sym at) ∙ some in
        rw (get-put_member xs n m x at, at) (first_stays table of x.members m one)

tells_put : (xs : List Batch) (n : ℕ) (m : Key × ℕ) (of : List ℕ) (newest : List ℕ → Option Newest) → n < length xs → is_of xs of n ≡ true
    → TellsNewest xs newest → TellsNewest (put_member xs n m) newest
tells_put xs n m of newest low some tells =
    tells-same xs (put_member xs n m) newest (record { long = length-put_member xs n m low; same = is_of-put xs n m of low some }) tells

-- ---- one more batch

past_end : (xs : List Batch) (table : List ℕ) (b : ℕ) → length xs ≤ b → is_of xs table b ≡ false
past_end xs table b high = rw (slice_get_past xs b high) refl

put_last : (xs : List Batch) (n : ℕ) (m : Key × ℕ) (table : List ℕ) → n ≡ length xs → is_of (put_member xs n m) table n ≡ bytes_eq table m.0.table
put_last xs n m table is = rw (get-put_member_new xs n m is) refl

put_others : (xs : List Batch) (n b : ℕ) (m : Key × ℕ) (table : List ℕ) → n ≡ length xs → (b ≡ n → ⊥) → is_of (put_member xs n m) table b ≡ is_of xs table b
put_others xs n b m table is apart = rw (get-put_member_other xs n b m (omega arith) apart) refl

-- of a table that isn't the member's no batch is added
put_none : (xs : List Batch) (n b : ℕ) (m : Key × ℕ) (table : List ℕ) → n ≡ length xs → bytes_eq table m.0.table ≡ false
    → is_of (put_member xs n m) table b ≡ is_of xs table b
put_none xs n b m table is not = elim (cases_eq b n) [
  | inl here ↦ rw here (put_last xs n m table is ∙ (not ∙ sym (past_end xs table n (omega arith))))
  | inr apart ↦ put_others xs n b m table is apart
]

-- the batch was begun for the table
tells_new : (xs : List Batch) (n : ℕ) (m : Key × ℕ) (e : Newest) (old new : TableBook) → n ≡ length xs → e.latest ≡ n → Renews old m.0.table e new
    → TellsNewest xs (told old) → TellsNewest (put_member xs n m) (told new)
tells_new xs n m e old new is latest renews tells table =
    let count : length (put_member xs n m) ≡ suc n = length-put_member_new xs n m is ∙ omega arith in
    ap (greatest (is_of (put_member xs n m) table)) count ∙ by (bytes_eq table m.0.table) refl
  where
    by : (t : Bool) → bytes_eq table m.0.table ≡ t
        → cond (is_of (put_member xs n m) table n) (Some n) (greatest (is_of (put_member xs n m) table) n)
        ≡ newest_at (put_member xs n m) table (told new table)
    by true own =
        let found : told new table ≡ Some e = renews.newest table ∙ (rw (bytes_eq-comm m.0.table table, own) refl) in
        rw (found, latest, put_last xs n m table is, own) refl
    by false not =
        let kept : told new table ≡ told old table = renews.newest table ∙ (rw (bytes_eq-comm m.0.table table, not) refl) in
        let before : greatest (is_of (put_member xs n m) table) n ≡ greatest (is_of xs table) (length xs) =
        greatest-same (is_of (put_member xs n m) table) (is_of xs table) n (λ b low. put_none xs n b m table is not) ∙ ap (greatest (is_of xs table)) is in
        rw (kept, put_last xs n m table is, not)
        (before ∙ (tells table ∙ sym (newest_same xs (put_member xs n m) table (told old table) (λ b. put_none xs n b m table is not))))

-- what is told stays true of batches of which the latest is none, since the one before it is told too
tells_before : (xs : List Batch) (table : List ℕ) (e : Newest) (old new : TableBook) → length xs ≤ e.latest → e.before ≡ newest_at xs table (told old table)
    → Renews old table e new → TellsNewest xs (told old) → TellsNewest xs (told new)
tells_before xs table e old new high before renews tells q = by (bytes_eq table q) refl
  where
    by : (t : Bool) → bytes_eq table q ≡ t → greatest (is_of xs q) (length xs) ≡ newest_at xs q (told new q)
    by true same =
        let is : table ≡ q = bytes_eq-same table q same in
        let found : told new q ≡ Some e = renews.newest q ∙ (rw same refl) in
        rw (found, ← is, past_end xs table e.latest high) (tells table ∙ sym before)
    by false not =
        let kept : told new q ≡ told old q = renews.newest q ∙ (rw not refl) in
        rw kept (tells q)

limits_new : (most : ℕ) (table : List ℕ) (e : Newest) (old new : TableBook) → e.most ≡ limit_by most (Some old.limits) table → Renews old table e new
    → TellsLimits most old → TellsLimits most new
limits_new most table e old new is renews tells q f found = by (bytes_eq table q) refl
  where
    by : (t : Bool) → bytes_eq table q ≡ t → f.most ≡ limit_by most (Some new.limits) q
    by true same =
        let two : ◌≡◌ {A = Option Newest} (Some e) (Some f) = sym (renews.newest q ∙ (rw same refl)) ∙ found in
        let one : e ≡ f = cc in
        rw (renews.limits, ← one, ← (bytes_eq-same table q same)) is
    by false not = rw renews.limits (tells q f (sym (renews.newest q ∙ (rw not refl)) ∙ found))

-- ---- what is kept, after a table is told of, and after a member was put

pub told_now : (table : List ℕ) (e : Newest) (old new : TableBook) → Renews old table e new → told new table ≡ Some e
told_now table e old new renews = renews.newest table ∙ (rw (nat_list_eq_equiv.refl table) refl)

-- what is told already
pub renews_told : (t : TableBook) (table : List ℕ) (e : Newest) → told t table ≡ Some e → Renews t table e t
renews_told t table e found = record { limits = refl; newest = λ q. by q (bytes_eq table q) refl; touched = refl }
  where
    by : (q : List ℕ) (b : Bool) → bytes_eq table q ≡ b → told t q ≡ cond b (Some e) (told t q)
    by q true same = sym (ap (told t) (bytes_eq-same table q same)) ∙ found
    by q false not = refl

-- and what would be told anew, where the latest batch is none of those that are shown
pub told_again : (t : TableBook) (shown : List Batch) (table : List ℕ) (e : Newest) (n : ℕ) → length shown ≤ n → e.latest ≡ n → told t table ≡ Some e
    → Renews t table (renewed shown table e n) t
told_again t shown table e n high latest found = rw (← latest, past_end shown table e.latest (rw latest high)) (renews_told t table e found)

pub tables_told : (most next : ℕ) (b : BothBatches) (old new : TableBook) (table : List ℕ) (e : Newest) → AreTables most b old → Renews old table e new
    → IsNewest most next old table e → length b.shown ≤ next → length b.prepared ≤ next → AreTables most b new
tables_told most next b old new table e are renews (inl found) shown prepared = record {
  tells_shown = λ q. rw (kept q) (are.tells_shown q);
  tells_prepared = λ q. rw (kept q) (are.tells_prepared q);
  limits = λ q f is. rw renews.limits (are.limits q f (sym (kept q) ∙ is));
  touched = rw renews.touched are.touched;
}
  where
    kept : (q : List ℕ) → told new q ≡ told old q
    kept q = renews.newest q ∙ by (bytes_eq table q) refl
      where
        by : (t : Bool) → bytes_eq table q ≡ t → cond t (Some e) (told old q) ≡ told old q
        by true same = sym (ap (told old) (sym (bytes_eq-same table q same)) ∙ found)
        by false not = refl
tables_told most next b old new table e are renews (inr (none, first)) shown prepared = record {
  tells_shown = tells_before b.shown table e old new (rw first shown) (rw (first, none) refl) renews are.tells_shown;
  tells_prepared = tells_before b.prepared table e old new (rw first prepared) (rw (first, none) refl) renews are.tells_prepared;
  limits = limits_new most table e old new (rw first refl) renews are.limits;
  touched = rw renews.touched are.touched;
}

-- what the book tells may stand otherwise
pub tables_kept : (most : ℕ) (b : BothBatches) (old new : TableBook) → TellsTheSame old new → AreTables most b old → AreTables most b new
tables_kept most b old new same are = record {
  tells_shown = λ q. rw (same.newest q) (are.tells_shown q);
  tells_prepared = λ q. rw (same.newest q) (are.tells_prepared q);
  limits = λ q f is. rw same.limits (are.limits q f (sym (same.newest q) ∙ is));
  touched = rw same.touched are.touched;
}

-- the book with one more batch that may be touched
abbrev pub touching : TableBook → ℕ → TableBook
touching t n = record { limits = t.limits; newest = t.newest; touched = t.touched ++ n ∷ [] }

-- a member was put into a batch of the list, and the batches that are shown stay
pub record ArePut (b c : BothBatches) (t : TableBook) (n : ℕ) (m : Key × ℕ) : Type 0 where
  pub touched : AreTouched (t.touched ++ n ∷ []) c.stored
  pub shown : c.shown ≡ b.shown
  pub prepared : c.prepared ≡ put_member b.prepared n m

pub tables_put : (most : ℕ) (b c : BothBatches) (t : TableBook) (n : ℕ) (m : Key × ℕ) (of : List ℕ) → AreTables most b t → ArePut b c t n m
    → n < length b.prepared → is_of b.prepared of n ≡ true → AreTables most c (touching t n)
tables_put most b c t n m of are put low some = record {
  tells_shown = rw put.shown are.tells_shown;
  tells_prepared = rw put.prepared (tells_put b.prepared n m of (told t) low some are.tells_prepared);
  limits = are.limits;
  touched = put.touched;
}

pub tables_begun : (most : ℕ) (b c : BothBatches) (t new : TableBook) (n : ℕ) (m : Key × ℕ) (e : Newest) → AreTables most b t → ArePut b c t n m
    → n ≡ length b.prepared → length b.shown ≤ n → e.latest ≡ n → e.most ≡ limit_by most (Some t.limits) m.0.table
    → e.before ≡ newest_at b.shown m.0.table (told t m.0.table) → Renews (touching t n) m.0.table e new → AreTables most c new
tables_begun most b c t new n m e are put last high latest limit before renews = record {
  tells_shown = rw put.shown (tells_before b.shown m.0.table e (touching t n) new (omega arith) before renews are.tells_shown);
  tells_prepared = rw put.prepared (tells_new b.prepared n m e (touching t n) new last latest renews are.tells_prepared);
  limits = limits_new most m.0.table e (touching t n) new limit renews are.limits;
  touched = rw renews.touched put.touched;
}

-- ---- the room of a key

either_way : (has : Bool) (n len : ℕ) → n ≡ len → cond has n n ≡ len
either_way true n len same = same
either_way false n len same = same

open_or_next : (has : Bool) (b n len : ℕ) → n ≡ len → cond has n b ≡ cond (not has) b len
open_or_next true b n len same = same
open_or_next false b n len same = refl

room_open : (max_batch sent most : ℕ) (xs : List Batch) (limits : List (List ℕ × ℕ)) (book : BatchBook) (k : Key) (o : Option ℕ)
    → IsOf max_batch sent xs limits book → most ≡ limit_by max_batch (Some limits) k.table
    → cond (has_member (members_of (slice_get xs (open_at sent most xs o))) k) (length xs) (open_at sent most xs o) ≡ room_of book k o
room_open max_batch sent most xs limits book k None is limit =
    either_way (has_member (members_of (slice_get xs (length xs))) k) (length xs) (length book.batches) (ap length (sym is.batches))
room_open max_batch sent most xs limits book k (Some b) is limit =
    rw (is.batches, is.sent_is, is.tables, is.max_batch_is, ← limit) (by (nat_le sent b && nat_lt (length (members_of (slice_get xs b))) most))
  where
    by : (t : Bool) → cond (has_member (members_of (slice_get xs (cond t b (length xs)))) k) (length xs) (cond t b (length xs))
        ≡ cond (t && not (has_member (members_of (slice_get xs b)) k)) b (length xs)
    by true = open_or_next (has_member (members_of (slice_get xs b)) k) b (length xs) (length xs) refl
    by false = either_way (has_member (members_of (slice_get xs (length xs))) k) (length xs) (length xs) refl

-- the newest batch of the table, if it is open, has room for the key
pub table_room : (max_batch sent : ℕ) (xs : List Batch) (t : TableBook) (book : BatchBook) (k : Key) (e : Newest) (n : ℕ)
    → IsOf max_batch sent xs t.limits book → TellsNewest xs (told t) → TellsLimits max_batch t → told t k.table ≡ Some e
    → n ≡ open_for sent xs k.table e
    → cond (has_member (members_of (slice_get xs n)) k) (length xs) n ≡ book_room book k
table_room max_batch sent xs t book k e n is tells limits known at =
    let each : (b : ℕ) → serves book.rules k (members_at book b) ≡ is_of xs k.table b = λ b. rw (is.tables, is.batches) refl in
    let newest : greatest (λ b. serves book.rules k (members_at book b)) (length book.batches) ≡ newest_at xs k.table (Some e) =
    ap (greatest (λ b. serves book.rules k (members_at book b))) (ap length is.batches)
    ∙ greatest-same (λ b. serves book.rules k (members_at book b)) (is_of xs k.table) (length xs) (λ b low. each b)
    ∙ tells k.table
    ∙ ap (newest_at xs k.table) known in
    rw at (room_open max_batch sent e.most xs t.limits book k (newest_at xs k.table (Some e)) is (limits k.table e known) ∙ ap (room_of book k) (sym newest))

module _ (xs : List Batch) (t : TableBook) (table : List ℕ) (e : Newest) (tells : TellsNewest xs (told t)) (known : told t table ≡ Some e) where
  -- the newest batch is one of the list
  pub newest_low : (b : ℕ) → newest_at xs table (Some e) ≡ Some b → b < length xs
  newest_low b is = greatest-below (is_of xs table) (length xs) b (tells table ∙ (ap (newest_at xs table) known ∙ is))

  -- and of the table
  pub newest_of : (b : ℕ) → newest_at xs table (Some e) ≡ Some b → is_of xs table b ≡ true
  newest_of b is = greatest-passes (is_of xs table) (length xs) b (tells table ∙ (ap (newest_at xs table) known ∙ is))

pub some_low : (o : Option ℕ) (n : ℕ) → ((b : ℕ) → o ≡ Some b → b < n) → IfSome o (λ b. b < n)
some_low None n low = tt
some_low (Some b) n low = low b refl

-- the batch that is open is one of the list, or the next
pub open_low : (sent most : ℕ) (xs : List Batch) (o : Option ℕ) → ((b : ℕ) → o ≡ Some b → b < length xs) → open_at sent most xs o ≤ length xs
open_low sent most xs None low = omega arith
open_low sent most xs (Some b) low = by (nat_le sent b && nat_lt (length (members_of (slice_get xs b))) most)
  where
    by : (t : Bool) → cond t b (length xs) ≤ length xs
    by true = let l : b < length xs = low b refl in omega arith
    by false = omega arith

-- where it is one of the list, it is the newest
pub open_is : (sent most n : ℕ) (xs : List Batch) (o : Option ℕ) → n ≡ open_at sent most xs o → n < length xs → o ≡ Some n
open_is sent most n xs None is low = absurd (omega arith)
open_is sent most n xs (Some b) is low = by (nat_le sent b && nat_lt (length (members_of (slice_get xs b))) most) is
  where
    by : (t : Bool) → n ≡ cond t b (length xs) → ◌≡◌ {A = Option ℕ} (Some b) (Some n)
    by true same = rw same refl
    by false same = absurd (omega arith)

-- where no member has the key, the member goes there
pub chosen : (has : Bool) (next room n : ℕ) → n ≡ cond has next room → (n ≡ next → ⊥) → n ≡ room
chosen true next room n is other = absurd (other is)
chosen false next room n is other = is

-- the next batch has no members
pub next_empty : (e : Extent) (most : ℕ) (xs : List Batch) → IsStored e most xs → members_of (slice_get xs e.begun) ≡ []
next_empty e most xs is = elim (cases_lt e.begun (length xs)) [
  | inl inside ↦ rw (is.spare e.begun (omega arith) inside) refl
  | inr past ↦ rw (slice_get_past xs e.begun past) refl
]
