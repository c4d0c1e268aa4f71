-- Items that are read from a list, one more at a time.
use Rattle.std.proofs.Common.{◌≡◌, ◌∙◌, sym, ap, Bool, true, false, cond, nat_lt, position, ℕ, suc, ◌+◌, ◌<◌, ◌≤◌, List, [], ◌∷◌, ◌++◌, length, drop, Option, Some, None, option_map, refl, arith}
use Rattle.std.proofs.Math.Seq.{drop-cons}
use Rattle.std.proofs.Math.ListN.{get_or}
use Rattle.std.proofs.lemmas.List.{append_assoc, append-nil, drop_all}
use Rattle.std.proofs.lemmas.Bool.Decides.{nat_tests}
use Rattle.std.specs.List.{position_or_len}
use Rattle.dl_terms.specs.TermAnswers.{both}

-- nothing was read so far
pub found_first : {A : Type 0} (xs : List A) (rest : Option (List A)) → xs ≡ [] → option_map (λ ys. xs ++ ys) rest ≡ rest
found_first xs None h = refl
found_first xs (Some ys) h = rw h refl

-- what was found goes from the front of the rest to the end of what was read
one_more : {A : Type 0} (xs : List A) (x : A) (rest : Option (List A))
    → option_map (λ ys. xs ++ x ∷ [] ++ ys) rest ≡ option_map (λ ys. xs ++ ys) (both (Some x) rest)
one_more xs x None = refl
one_more xs x (Some ys) = ap Some (append_assoc xs (x ∷ []) ys)

module _ {V A : Type 0} (read : V → Option A) (read_all : List V → Option (List A))
    (goes : (v : V) (vs : List V) → read_all (v ∷ vs) ≡ both (read v) (read_all vs)) where
  -- the rest begins with the item at this place
  next_item : (items : List V) (place : ℕ) (item : V) → place < length items → item ≡ get_or items place item
      → drop place items ≡ item ∷ drop (place + 1) items
  next_item items place item low at =
      let next : suc place ≡ place + 1 = omega arith in
      rw next at (drop-cons items place item low) ∙ ap (λ (v : V). v ∷ drop (place + 1) items) (sym at)

  -- one more was read, of the item at this place
  pub found_more : (xs new : List A) (x : A) (items : List V) (place : ℕ) (item : V)
      → option_map (λ ys. xs ++ ys) (read_all (drop place items)) ≡ read_all items
      → place < length items → item ≡ get_or items place item → Some x ≡ read item → new ≡ xs ++ x ∷ []
      → option_map (λ ys. new ++ ys) (read_all (drop (place + 1) items)) ≡ read_all items
  found_more xs new x items place item so_far low at is pushed =
      let rest : List V = drop (place + 1) items in
      let cut : drop place items ≡ item ∷ rest = next_item items place item low at in
      let first : both (Some x) (read_all rest) ≡ read_all (item ∷ rest) = ap (λ (o : Option A). both o (read_all rest)) is ∙ sym (goes item rest) in
      rw pushed (one_more xs x (read_all rest) ∙ (ap (option_map (λ ys. xs ++ ys)) (first ∙ ap read_all (sym cut)) ∙ so_far))

  -- one item isn't one of these
  pub found_stops : (xs : List A) (items : List V) (place : ℕ) (item : V)
      → option_map (λ ys. xs ++ ys) (read_all (drop place items)) ≡ read_all items
      → place < length items → item ≡ get_or items place item → None ≡ read item → None ≡ read_all items
  found_stops xs items place item so_far low at none =
      let rest : List V = drop (place + 1) items in
      let stops : None ≡ read_all (item ∷ rest) = ap (λ (o : Option A). both o (read_all rest)) none ∙ sym (goes item rest) in
      ap (option_map (λ ys. xs ++ ys)) (stops ∙ ap read_all (sym (next_item items place item low at))) ∙ so_far

  -- all items were read
  pub found_all : read_all [] ≡ Some []
      → (xs : List A) (items : List V) (place : ℕ)
      → option_map (λ ys. xs ++ ys) (read_all (drop place items)) ≡ read_all items → length items ≤ place → Some xs ≡ read_all items
  found_all none xs items place so_far long =
      let end : Some [] ≡ read_all (drop place items) = sym none ∙ ap read_all (sym (drop_all place items long)) in
      ap Some (sym (append-nil xs)) ∙ (ap (option_map (λ ys. xs ++ ys)) end ∙ so_far)

-- ---- the first place at which a test passes

found_by : (b : Bool) (n at : ℕ) → Some at ≡ cond b (Some n) None → n ≡ at
found_by true n at e = let same : ◌≡◌ {A = Option ℕ} (Some at) (Some n) = e in cc
found_by false n at e = absurd (let bad : ◌≡◌ {A = Option ℕ} (Some at) None = e in cc)

none_by : (b : Bool) (n : ℕ) → None ≡ cond b (Some n) None → b ≡ false
none_by true n e = absurd (let bad : ◌≡◌ {A = Option ℕ} None (Some n) = e in cc)
none_by false n e = refl

not_below : (n m : ℕ) → nat_lt n m ≡ false → m ≤ n
not_below n m e = grind (arith, nat_tests)

pub place_found : (p : ℕ → Bool) (xs : List ℕ) (at : ℕ) → Some at ≡ position p xs → position_or_len p xs ≡ at
place_found p xs at e = found_by (nat_lt (position_or_len p xs) (length xs)) (position_or_len p xs) at e

pub none_found : (p : ℕ → Bool) (xs : List ℕ) → None ≡ position p xs → length xs ≤ position_or_len p xs
none_found p xs e =
    not_below (position_or_len p xs) (length xs) (none_by (nat_lt (position_or_len p xs) (length xs)) (position_or_len p xs) e)
