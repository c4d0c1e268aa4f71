-- What `position` tells of the first item that passes a test.
use Rattle.std.proofs.Common.{◌≡◌, inl, inr, ℕ, suc, ◌+◌, ◌<◌, ◌≤◌, List, [], ◌∷◌, ◌++◌, length}
use Rattle.std.proofs.Common.{get_or, take, map, Bool, true, false, Some, None, refl, sym, ap, ◌∙◌, arith}
use Rattle.std.proofs.lemmas.Bool.{cases_lt, le-leb}
use Rattle.std.proofs.lemmas.List.{take_more, map-append}
use Rattle.std.proofs.lemmas.List.Quantifiers.{position-Some}
use Rattle.std.proofs.lemmas.List.Sums.{fails_before_first}
use Rattle.std.proofs.lemmas.Option.{none-some, slice_get-get_or, slice_get_within, get_or_from_slice_get}
use Rattle.std.specs.List.{AllByRecursion, slice_get, position, position_or_len}
use Rattle.dl_documents.specs.Inside.Places.{IsFirst, IsFirstIn}
use Rattle.dl_documents.proofs.ListSpelling.{all_at, all_more, from_item, item_made, in_front, item_now}

past : {A : Type 0} (p : A → Bool) (xs : List A) → position p xs ≡ None → length xs ≤ position_or_len p xs
past p xs e =
    elim (cases_lt (position_or_len p xs) (length xs)) [
      | inl under ↦
          let t = le-leb (suc (position_or_len p xs)) (length xs) under in
          absurd (none-some (position_or_len p xs) (sym (rw t at e)))
      | inr over ↦ over
    ]

all_made : {A B : Type 0} (f : A → B) (P : B → Type 0) (xs : List A) → ((n : ℕ) (x : A) → slice_get xs n ≡ Some x → P (f x)) → AllByRecursion P (map f xs)
all_made f P [] h = tt
all_made f P (x ∷ xs) h = (h 0 x refl, all_made f P xs (λ n y e. h (suc n) y e))

module _ {A B : Type 0} (f : A → B) (test : B → Bool) (Bad Good : B → Type 0)
    (bad : (y : B) → test y ≡ true → Bad y) (good : (y : B) → test y ≡ false → Good y) (never : (y : B) → Good y → Bad y → ⊥) where
  -- the place of the first that is bad
  pub first_place : (xs : List A) (i : ℕ) → position (λ x. test (f x)) xs ≡ Some i → IsFirst Bad (map f xs) i
  first_place [] i e = absurd (none-some i e)
  first_place (x ∷ xs) i e =
      let p = position-Some (λ y. test (f y)) (x ∷ xs) i x e in
      let before : (m : ℕ) (y : B) → m < i → slice_get (map f (x ∷ xs)) m ≡ Some y → Good y = λ m y less there.
      (let q = from_item f (x ∷ xs) m y there in
      let same : get_or (x ∷ xs) m x ≡ q.0 = get_or_from_slice_get (x ∷ xs) m q.0 x q.1 in
      let passed : test (f q.0) ≡ false = ap (λ (z : A). test (f z)) (sym same) ∙ p.2 m less in
      rw q.2 (good (f q.0) passed)) in
      record {
        item = f (get_or (x ∷ xs) i x);
        there = item_made f (x ∷ xs) i (get_or (x ∷ xs) i x) (slice_get-get_or (x ∷ xs) i x p.0);
        bad = bad (f (get_or (x ∷ xs) i x)) p.1;
        first = λ m y less there wrong. never y (before m y less there) wrong;
      }

  -- no place, so each is good
  pub no_place : (xs : List A) → position (λ x. test (f x)) xs ≡ None → AllByRecursion Good (map f xs)
  no_place xs e =
      all_made f Good xs (λ n x there.
      (let low : n < length xs = slice_get_within xs n x there in
      let more : length xs ≤ position_or_len (λ y. test (f y)) xs = past (λ y. test (f y)) xs e in
      let same : get_or xs n x ≡ x = get_or_from_slice_get xs n x x there in
      let passed : test (f x) ≡ false = ap (λ (z : A). test (f z)) (sym same) ∙ fails_before_first (λ y. test (f y)) xs n x (omega arith) in
      good (f x) passed))

-- ---- rows

module _ {V A : Type 0} (see : V → List A) (Good Bad : A → Type 0) (never : (y : A) → Good y → Bad y → ⊥) where
  -- one row more is good
  pub good_more : (vs : List V) (i : ℕ) (v : V) → i < length vs → v ≡ get_or vs i v → AllByRecursion (λ row. AllByRecursion Good row) (map see (take i vs))
      → AllByRecursion Good (see v) → AllByRecursion (λ row. AllByRecursion Good row) (map see (take (i + 1) vs))
  good_more vs i v low at so_far good =
      let front : take (i + 1) vs ≡ take i vs ++ v ∷ [] = take_more vs i v low ∙ ap (λ y. take i vs ++ y ∷ []) (sym at) in
      rw (ap (map see) front ∙ map-append see (take i vs) (v ∷ [])) (all_more (λ row. AllByRecursion Good row) (map see (take i vs)) (see v) so_far good)

  -- the first row that is bad
  pub bad_row : (vs : List V) (i m : ℕ) (v : V) → i < length vs → v ≡ get_or vs i v → AllByRecursion (λ row. AllByRecursion Good row) (map see (take i vs))
      → IsFirst Bad (see v) m → IsFirstIn Bad (map see vs) i m
  bad_row vs i m v low at so_far first = record {
    row = see v;
    there = item_now see vs i v low at;
    in_row = first;
    before = λ k r less there has.
        (let here : slice_get (map see (take i vs)) k ≡ Some r = in_front see vs i k less ∙ there in
        never has.1 (all_at Good r has.0 has.1 (all_at (λ row. AllByRecursion Good row) (map see (take i vs)) k r so_far here) has.2) has.3);
  }
