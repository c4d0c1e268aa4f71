-- What preparing a cell makes of the two books.
use Rattle.std.proofs.Common.{◌≡◌, ◌∙◌, sym, ap, subst, ℕ, zero, suc, ◌+◌, ◌<◌, ◌≤◌, inl, inr, max, min, Bool, true, false, cond, List, [], ◌∷◌, ◌++◌, length}
use Rattle.std.proofs.Common.{map, set, take, Option, Some, None, slice_get, refl, arith}
use Rattle.std.specs.Map.{lookup}
use Rattle.std.proofs.lemmas.Bool.{cases_lt}
use Rattle.std.proofs.lemmas.Option.{slice_get-map, slice_get_past}
use Rattle.std.proofs.lemmas.List.{map-append, map-set, length-map, length-take, take-append-le}
use Rattle.dl_values.specs.Key.{Key, key_eq}
use Rattle.dl_desk.specs.Inside.StoredBatch.{StoredBatch, blank}
use Rattle.dl_values.specs.Limits.{Rules}
use Rattle.dl_desk.specs.BatchBook.{Batch, BatchBook}
use Rattle.dl_desk.specs.Inside.Preparation.{prepared_batch, shown_batch, empty, members_of, MayJoin, put_member}
use Rattle.dl_desk.specs.Inside.Marks.{DeskFields, IsStored, IsDesk, MakesRoom, more, IsAdded}
use Rattle.dl_desk.specs.declared.desk.Extent.{Extent}
use Rattle.dl_values.proofs.KeyLemmas.{key_eq-refl, key_eq-sym, key_eq-same}
use Rattle.dl_desk.proofs.NewMember.{first_member}
use Rattle.dl_desk.proofs.DispatchJobs.{get-take}
use Rattle.dl_desk.proofs.Tails.{map-set_unseen}
use Rattle.dl_desk.proofs.MemoMembers.{none_taken}
use Rattle.dl_desk.proofs.FieldMarks.{stored_grows}

-- ---- the memo

lookup_step : (test : Key → Bool) (e : Key × ℕ) (es : List (Key × ℕ)) (k : Key) (c : ℕ) (t : Bool) (o : Option ℕ) → lookup test (es ++ (k, c) ∷ []) ≡ o
    → cond t (Some e.1) (lookup test (es ++ (k, c) ∷ [])) ≡ cond t (Some e.1) o
lookup_step test e es k c true o rest = refl
lookup_step test e es k c false o rest = rest

lookup-append_miss : (test : Key → Bool) (es : List (Key × ℕ)) (k : Key) (c : ℕ) → test k ≡ false → lookup test (es ++ (k, c) ∷ []) ≡ lookup test es
lookup-append_miss test [] k c miss = rw miss refl
lookup-append_miss test (e ∷ es) k c miss = lookup_step test e es k c (test e.0) (lookup test es) (lookup-append_miss test es k c miss)

hit_step : (test : Key → Bool) (e : Key × ℕ) (es : List (Key × ℕ)) (k : Key) (c : ℕ) (t : Bool) → cond t (Some e.1) (lookup test es) ≡ None
    → (lookup test es ≡ None → lookup test (es ++ (k, c) ∷ []) ≡ Some c) → cond t (Some e.1) (lookup test (es ++ (k, c) ∷ [])) ≡ Some c
hit_step test e es k c true none rest = absurd (let bad : ◌≡◌ {A = Option ℕ} (Some e.1) None = none in cc)
hit_step test e es k c false none rest = rest none

lookup-append_hit : (test : Key → Bool) (es : List (Key × ℕ)) (k : Key) (c : ℕ) → test k ≡ true → lookup test es ≡ None
    → lookup test (es ++ (k, c) ∷ []) ≡ Some c
lookup-append_hit test [] k c hit none = rw hit refl
lookup-append_hit test (e ∷ es) k c hit none = hit_step test e es k c (test e.0) none (lookup-append_hit test es k c hit)

-- the memo with one more entry, of a key that wasn't held
pub lookup-noted : (es : List (Key × ℕ)) (k q : Key) (c : ℕ) → lookup (key_eq k) es ≡ None
    → lookup (key_eq q) (es ++ (k, c) ∷ []) ≡ cond (key_eq k q) (Some c) (lookup (key_eq q) es)
lookup-noted es k q c none = by (key_eq k q) refl
  where
    by : (t : Bool) → key_eq k q ≡ t → lookup (key_eq q) (es ++ (k, c) ∷ []) ≡ cond t (Some c) (lookup (key_eq q) es)
    by true is =
        let same : k ≡ q = key_eq-same k q is in
        let P : Key → Type 0 = λ x. lookup (key_eq x) es ≡ None in
        lookup-append_hit (key_eq q) es k c (key_eq-sym q k ∙ is) (subst P same none)
    by false is = lookup-append_miss (key_eq q) es k c (key_eq-sym q k ∙ is)

-- ---- the batches

pub take-grown : (f : StoredBatch → Batch) (k : ℕ) (xs grown : List StoredBatch) → k ≤ length xs → MakesRoom xs grown → take k (map f grown) ≡ take k (map f xs)
take-grown f k xs grown low (inl same) = rw same refl
take-grown f k xs grown low (inr one) = rw (one, map-append) (take-append-le k (map f xs) (f blank ∷ []) (rw length-map low))

take_put : (xs : List Batch) (k n : ℕ) (x : Batch) (m : Key × ℕ) → n < k → slice_get xs n ≡ Some x → take k (set xs n (more x m)) ≡ put_member (take k xs) n m
take_put [] k n x m low at = absurd (let bad : ◌≡◌ {A = Option Batch} None (Some x) = at in cc)
take_put (y ∷ xs) zero n x m low at = absurd (omega arith)
take_put (y ∷ xs) (suc k) zero x m low at = let e : ◌≡◌ {A = Option Batch} (Some y) (Some x) = at in let is : y ≡ x = cc in rw is refl
take_put (y ∷ xs) (suc k) (suc n) x m low at = ap (λ (zs : List Batch). y ∷ zs) (take_put xs k n x m (omega arith) at)

take_put_next : (xs : List Batch) (n : ℕ) (y : Batch) (m : Key × ℕ) → n < length xs → y ≡ first_member m
    → take (suc n) (set xs n y) ≡ put_member (take n xs) n m
take_put_next [] n y m low is = absurd (omega arith)
take_put_next (x ∷ xs) zero y m low is = rw is refl
take_put_next (x ∷ xs) (suc n) y m low is = ap (λ (zs : List Batch). x ∷ zs) (take_put_next xs n y m (omega arith) is)

whole_at : (f : StoredBatch → Batch) (xs : List StoredBatch) (n : ℕ) (x : StoredBatch) → slice_get xs n ≡ Some x → slice_get (map f xs) n ≡ Some (f x)
whole_at f xs n x at = rw (slice_get-map f xs n, at) refl

-- the batches of the prepared book with one more member
pub put_batches : (e : Extent) (most n : ℕ) (m : Key × ℕ) (xs ys : List StoredBatch) → IsStored e most (map prepared_batch xs) → IsAdded xs n m ys
    → n ≤ e.begun → take (max e.begun (n + 1)) (map prepared_batch ys) ≡ put_member (take e.begun (map prepared_batch xs)) n m
put_batches e most n m xs ys is added next =
    let inside : e.begun ≤ length xs = rw length-map at is.all_stored in
    let front_same : take e.begun (map prepared_batch added.grown) ≡ take e.begun (map prepared_batch xs) =
    take-grown prepared_batch e.begun xs added.grown inside added.grows in
    let here : slice_get (map prepared_batch added.grown) n ≡ Some (prepared_batch added.before) =
    whole_at prepared_batch added.grown n added.before added.at in
    elim (cases_lt n e.begun) [
      | inl below ↦
          let ends : max e.begun (n + 1) ≡ e.begun = omega arith in
          rw (ends, added.is, map-set, added.added, ← front_same)
          (take_put (map prepared_batch added.grown) e.begun n (prepared_batch added.before) m below here)
      | inr last ↦
          let n_is : n ≡ e.begun = omega arith in
          let ends : max e.begun (n + 1) ≡ suc n = omega arith in
          let spare : slice_get (map prepared_batch added.grown) n ≡ Some empty =
          (stored_grows e most xs added.grown is added.grows).spare n last (rw length-map added.low) in
          let two : ◌≡◌ {A = Option Batch} (Some (prepared_batch added.before)) (Some empty) = sym here ∙ spare in
          let blank_is : prepared_batch added.before ≡ empty = cc in
          let first : prepared_batch added.then ≡ first_member m = added.added ∙ ap (λ (b : Batch). more b m) blank_is in
          rw (ends, added.is, map-set, ← front_same, ← n_is)
          (take_put_next (map prepared_batch added.grown) n (prepared_batch added.then) m (rw length-map added.low) first)
    ]

-- as many batches are taken as were begun
pub length-begun : (e : Extent) (most : ℕ) (xs : List Batch) → IsStored e most xs → length (take e.begun xs) ≡ e.begun
length-begun e most xs is = rw length-take (let s = is.all_stored in omega arith)

-- a member of a key may join once the memo holds its cell, which it didn't before
pub may_join : (d : DeskFields) (k : Key) (book : BatchBook) → IsDesk d → lookup (key_eq k) d.memo ≡ None
    → book.batches ≡ take d.prepared.begun (map prepared_batch d.batches) → book.cells ≡ d.prepared.cells + 1
    → book.memo ≡ d.memo ++ (k, d.prepared.cells) ∷ [] → MayJoin book k d.forgotten
may_join d k book is none batches cells memo = record {
  next = rw (batches, length-begun d.prepared d.max_cells (map prepared_batch d.batches) is.prepared_book)
      (let f = is.prepared_book.few in omega arith);
  held = rw (memo, lookup-noted d.memo k k d.prepared.cells none, key_eq-refl k) refl;
  none = rw batches (none_taken d.prepared.begun d.forgotten (map prepared_batch d.batches) k (is.prepared_held k none));
}

-- the members of a batch up to the next one, which has none
pub members-taken : (e : Extent) (most n : ℕ) (xs : List Batch) → IsStored e most xs → n ≤ e.begun
    → members_of (slice_get (take e.begun xs) n) ≡ members_of (slice_get xs n)
members-taken e most n xs is low = elim (cases_lt n e.begun) [
  | inl below ↦ rw (get-take xs e.begun n below) refl
  | inr above ↦
      let past : slice_get (take e.begun xs) n ≡ None = slice_get_past (take e.begun xs) n (rw length-take (let s = is.all_stored in omega arith)) in
      elim (cases_lt n (length xs)) [
        | inl inside ↦ rw (past, is.spare n above inside) refl
        | inr outside ↦ rw (past, slice_get_past xs n outside) refl
      ]
]

-- of the newest batch and the next one neither is past the end
pub low_choice : (in_next : Bool) (next newest n : ℕ) → newest ≤ next → n ≡ cond in_next next newest → n ≤ next
low_choice true next newest n low is = omega arith
low_choice false next newest n low is = omega arith

-- ---- the shown book

-- a batch that is no further than the end of the prepared ones
pub below_begun : (e : Extent) (n : ℕ) (xs : List Batch) → n ≤ length (take e.begun xs) → n ≤ e.begun
below_begun e n xs low = let l : n ≤ min e.begun (length xs) = rw length-take at low in omega arith

-- what is shown of the memo stays when an entry is added
pub memo_shown : (n : ℕ) (es : List (Key × ℕ)) (e : Key × ℕ) → n ≤ length es → take n (es ++ e ∷ []) ≡ take n es
memo_shown n es e low = take-append-le n es (e ∷ []) low

-- and what is shown of the batches when a member is
pub batches_shown : (e : Extent) (most n : ℕ) (m : Key × ℕ) (xs ys : List StoredBatch) → IsStored e most (map shown_batch xs) → IsAdded xs n m ys
    → take e.begun (map shown_batch ys) ≡ take e.begun (map shown_batch xs)
batches_shown e most n m xs ys is added =
    let inside : e.begun ≤ length xs = rw length-map at is.all_stored in
    rw (added.is, map-set_unseen shown_batch added.grown n added.before added.then added.at added.shown)
    (take-grown shown_batch e.begun xs added.grown inside added.grows)

-- two books with the same parts
pub same_book : (rules : Rules) (cells sent : ℕ) (memo memo' : List (Key × ℕ)) (batches batches' : List Batch) → memo' ≡ memo → batches' ≡ batches
    → ◌≡◌ {A = BatchBook} (record { rules = rules; cells = cells; sent = sent; memo = memo'; batches = batches' })
    (record { rules = rules; cells = cells; sent = sent; memo = memo; batches = batches })
same_book rules cells sent memo memo' batches batches' m b = rw (m, b) refl
