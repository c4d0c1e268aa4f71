-- Which batches have members only of keys that the memo holds.
use Rattle.std.proofs.Common.{◌≡◌, ◌∙◌, sym, ap, subst, ℕ, zero, suc, ◌≤◌, inl, inr, Bool, true, false, ◌||◌, cond, true≢false, List, [], ◌∷◌, ◌++◌, length}
use Rattle.std.proofs.Common.{map, set, take, Option, Some, None, IsSome, slice_get, refl, arith}
use Rattle.std.specs.Map.{lookup}
use Rattle.std.proofs.lemmas.Bool.{cases_lt, cases_eq}
use Rattle.std.proofs.lemmas.Option.{slice_get-map, slice_get_past, slice_get_within}
use Rattle.std.proofs.lemmas.List.{map-append, map-set}
use Rattle.dl_values.specs.Key.{Key, key_eq}
use Rattle.dl_values.proofs.KeyLemmas.{key_eq-same}
use Rattle.dl_desk.specs.History.{has_member}
use Rattle.dl_desk.specs.Inside.StoredBatch.{StoredBatch, blank}
use Rattle.dl_desk.specs.BatchBook.{Batch}
use Rattle.dl_desk.specs.Inside.Preparation.{prepared_batch, shown_batch, empty, members_of, NoneFrom, AllHeld}
use Rattle.dl_desk.specs.Inside.Marks.{IsStored, MakesRoom, more, IsAdded}
use Rattle.dl_desk.specs.declared.desk.Extent.{Extent}
use Rattle.dl_desk.proofs.DispatchJobs.{get-take}
use Rattle.dl_desk.proofs.Tails.{get-set_same, get-set_other, map-set_unseen}

-- ---- batches that aren't begun

-- they have no members
none_past : (e : Extent) (most : ℕ) (xs : List Batch) (k : Key) (b : ℕ) → IsStored e most xs → e.begun ≤ b
    → has_member (members_of (slice_get xs b)) k ≡ false
none_past e most xs k b is high = elim (cases_lt b (length xs)) [
  | inl inside ↦ rw (is.spare b high inside) refl
  | inr past ↦ rw (slice_get_past xs b past) refl
]

-- so what was forgotten before they are begun doesn't count
pub held_none : (e : Extent) (most n : ℕ) (memo : List (Key × ℕ)) (xs : List Batch) → IsStored e most xs → e.begun ≤ n → AllHeld n memo xs
held_none e most n memo xs is later k none b high = none_past e most xs k b is (omega arith)

-- of the stored batches those that are begun tell
pub none_stored : (e : Extent) (most n : ℕ) (xs : List Batch) (k : Key) → IsStored e most xs → NoneFrom n (take e.begun xs) k → NoneFrom n xs k
none_stored e most n xs k is none b high = elim (cases_lt b e.begun) [
  | inl below ↦ ap (λ (o : Option Batch). has_member (members_of o) k) (sym (get-take xs e.begun b below)) ∙ none b high
  | inr past ↦ none_past e most xs k b is past
]

none_front : (c : ℕ) (xs : List Batch) (k : Key) (b : ℕ) → has_member (members_of (slice_get xs b)) k ≡ false
    → has_member (members_of (slice_get (take c xs) b)) k ≡ false
none_front zero xs k b none = refl
none_front (suc c) [] k b none = refl
none_front (suc c) (x ∷ xs) k zero none = none
none_front (suc c) (x ∷ xs) k (suc b) none = none_front c xs k b none

-- and the other way round
pub none_taken : (c n : ℕ) (xs : List Batch) (k : Key) → NoneFrom n xs k → NoneFrom n (take c xs) k
none_taken c n xs k none b high = none_front c xs k b (none b high)

-- ---- the memo

front_step : (t : Bool) (c : ℕ) (longer front : Option ℕ) → (longer ≡ None → front ≡ None) → cond t (Some c) longer ≡ None → cond t (Some c) front ≡ None
front_step true c longer front rest none = absurd (let bad : ◌≡◌ {A = Option ℕ} (Some c) None = none in cc)
front_step false c longer front rest none = rest none

not_in_front : (test : Key → Bool) (es : List (Key × ℕ)) (e : Key × ℕ) → lookup test (es ++ e ∷ []) ≡ None → lookup test es ≡ None
not_in_front test [] e none = refl
not_in_front test (f ∷ es) e none = front_step (test f.0) f.1 (lookup test (es ++ e ∷ [])) (lookup test es) (not_in_front test es e) none

-- the memo holds one key more
pub held_more : (n : ℕ) (memo : List (Key × ℕ)) (e : Key × ℕ) (xs : List Batch) → AllHeld n memo xs → AllHeld n (memo ++ e ∷ []) xs
held_more n memo e xs all k none = all k (not_in_front (key_eq k) memo e none)

pub held_same : (n : ℕ) (memo memo' : List (Key × ℕ)) (xs ys : List Batch) → memo' ≡ memo → ys ≡ xs → AllHeld n memo xs → AllHeld n memo' ys
held_same n memo memo' xs ys m x all = rw (m, x) all

-- ---- the batches

none_grown : (xs : List Batch) (k : Key) (b : ℕ) → has_member (members_of (slice_get xs b)) k ≡ false
    → has_member (members_of (slice_get (xs ++ empty ∷ []) b)) k ≡ false
none_grown [] k zero none = refl
none_grown [] k (suc b) none = refl
none_grown (x ∷ xs) k zero none = none
none_grown (x ∷ xs) k (suc b) none = none_grown xs k b none

-- an empty batch may be added
pub held_grows : (f : StoredBatch → Batch) (n : ℕ) (memo : List (Key × ℕ)) (xs grown : List StoredBatch) → f blank ≡ empty → AllHeld n memo (map f xs)
    → MakesRoom xs grown → AllHeld n memo (map f grown)
held_grows f n memo xs grown none all (inl same) k gone b high = rw same (all k gone b high)
held_grows f n memo xs grown none all (inr one) k gone b high = rw (one, map-append, none) (none_grown (map f xs) k b (all k gone b high))

-- another batch may stand in a place, if its members are of keys that the memo holds or of those that were there
held_set : (n : ℕ) (memo : List (Key × ℕ)) (xs : List Batch) (c : ℕ) (x y : Batch) → slice_get xs c ≡ Some x
    → ((k : Key) → lookup (key_eq k) memo ≡ None → has_member x.members k ≡ false → has_member y.members k ≡ false)
    → AllHeld n memo xs → AllHeld n memo (set xs c y)
held_set n memo xs c x y at fits all k none b high = elim (cases_eq b c) [
  | inl here ↦
      let got : slice_get (set xs c y) b ≡ Some y = rw here (get-set_same xs c y (slice_get_within xs c x at)) in
      let was : slice_get xs b ≡ Some x = rw here at in
      let before : has_member x.members k ≡ false = rw was at (all k none b high) in
      rw got (fits k none before)
  | inr other ↦ rw (get-set_other xs c b y other) (all k none b high)
]

-- the same members
pub held_marked : (n : ℕ) (memo : List (Key × ℕ)) (xs : List Batch) (c : ℕ) (x y : Batch) → slice_get xs c ≡ Some x → y.members ≡ x.members
    → AllHeld n memo xs → AllHeld n memo (set xs c y)
held_marked n memo xs c x y at same all = held_set n memo xs c x y at (λ k none before. rw same before) all

apart_from : (memo : List (Key × ℕ)) (k j : Key) → lookup (key_eq k) memo ≡ None → IsSome (lookup (key_eq j) memo) → key_eq k j ≡ false
apart_from memo k j none some = by (key_eq k j) refl
  where
    by : (t : Bool) → key_eq k j ≡ t → key_eq k j ≡ false
    by true same =
        let P : Key → Type 0 = λ q. lookup (key_eq q) memo ≡ None in
        let gone : lookup (key_eq j) memo ≡ None = subst P (key_eq-same k j same) none in
        let bad : ◌≡◌ {A = Bool} false true = rw gone at some in
        absurd (true≢false (sym bad))
    by false is = is

more_step : (t before then : Bool) → (before ≡ false → then ≡ false) → (t || before) ≡ false → (t || then) ≡ false
more_step true before then rest none = none
more_step false before then rest none = rest none

none_more : (ms : List (Key × ℕ)) (m : Key × ℕ) (k : Key) → has_member ms k ≡ false → key_eq k m.0 ≡ false → has_member (ms ++ m ∷ []) k ≡ false
none_more [] m k none other = rw other refl
none_more (x ∷ ms) m k none other = more_step (key_eq k x.0) (has_member ms k) (has_member (ms ++ m ∷ []) k) (λ rest. none_more ms m k rest other) none

-- one member more, of a key that the memo holds
pub held_put : (n : ℕ) (memo : List (Key × ℕ)) (xs : List Batch) (c : ℕ) (x : Batch) (m : Key × ℕ) → slice_get xs c ≡ Some x
    → IsSome (lookup (key_eq m.0) memo) → AllHeld n memo xs → AllHeld n memo (set xs c (more x m))
held_put n memo xs c x m at some all = held_set n memo xs c x (more x m) at
    (λ k none before. none_more x.members m k before (apart_from memo k m.0 none some)) all

-- ---- the stored batches with one more member

pub put_held : (n c : ℕ) (memo : List (Key × ℕ)) (m : Key × ℕ) (xs ys : List StoredBatch) → IsAdded xs c m ys → IsSome (lookup (key_eq m.0) memo)
    → AllHeld n memo (map prepared_batch xs) → AllHeld n memo (map prepared_batch ys)
put_held n c memo m xs ys added some all =
    let here : slice_get (map prepared_batch added.grown) c ≡ Some (prepared_batch added.before) =
    rw (slice_get-map prepared_batch added.grown c, added.at) refl in
    rw (added.is, map-set, added.added) (held_put n memo (map prepared_batch added.grown) c (prepared_batch added.before) m here some
    (held_grows prepared_batch n memo xs added.grown refl all added.grows))

pub put_unseen : (n c : ℕ) (memo : List (Key × ℕ)) (m : Key × ℕ) (xs ys : List StoredBatch) → IsAdded xs c m ys
    → AllHeld n memo (map shown_batch xs) → AllHeld n memo (map shown_batch ys)
put_unseen n c memo m xs ys added all = rw (added.is, map-set_unseen shown_batch added.grown c added.before added.then added.at added.shown)
    (held_grows shown_batch n memo xs added.grown refl all added.grows)
