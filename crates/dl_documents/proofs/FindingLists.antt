-- Items that are read from a list, one more at a time.
use Rattle.std.proofs.Common.{◌≡◌, ◌∙◌, sym, ap, ℕ, suc, ◌+◌, ◌<◌, ◌≤◌, List, [], ◌∷◌, ◌++◌, length, drop, Option, Some, None, option_map, refl, arith, Global}
use Rattle.std.proofs.Math.Seq.{drop-cons}
use Rattle.std.proofs.Math.ListN.{get_or}
use Rattle.std.proofs.lemmas.List.{append_assoc, append-nil, drop_all}
use Rattle.json.specs.declared.value.Value.{Value}
use Rattle.dl_terms.specs.TermAnswers.{both}

-- nothing was read so far
pub found_first : {A : Type 0} (xs : List A) (rest : Option (List A)) → xs ≡ [] → option_map (λ ys. xs ++ ys) rest ≡ rest
found_first xs None h = refl
found_first xs (Some ys) h = rw h refl

-- what was found goes from the front of the rest to the end of what was read
one_more : {A : Type 0} (xs : List A) (x : A) (rest : Option (List A))
    → option_map (λ ys. xs ++ x ∷ [] ++ ys) rest ≡ option_map (λ ys. xs ++ ys) (both (Some x) rest)
one_more xs x None = refl
one_more xs x (Some ys) = ap Some (append_assoc xs (x ∷ []) ys)

-- the rest begins with the item at this place
next_item : (items : List (Value Global)) (place : ℕ) (item : Value Global) → place < length items → item ≡ get_or items place item
    → drop place items ≡ item ∷ drop (place + 1) items
next_item items place item low at =
    let next : suc place ≡ place + 1 = omega arith in
    rw next at (drop-cons items place item low) ∙ ap (λ (v : Value Global). v ∷ drop (place + 1) items) (sym at)

-- one more was read, of the item at this place
pub found_more : {A : Type 0} (read : Value Global → Option A) (read_all : List (Value Global) → Option (List A))
    → ((v : Value Global) (vs : List (Value Global)) → read_all (v ∷ vs) ≡ both (read v) (read_all vs))
    → (xs new : List A) (x : A) (items : List (Value Global)) (place : ℕ) (item : Value Global)
    → option_map (λ ys. xs ++ ys) (read_all (drop place items)) ≡ read_all items
    → place < length items → item ≡ get_or items place item → Some x ≡ read item → new ≡ xs ++ x ∷ []
    → option_map (λ ys. new ++ ys) (read_all (drop (place + 1) items)) ≡ read_all items
found_more {A} read read_all goes xs new x items place item so_far low at is pushed =
    let rest : List (Value Global) = drop (place + 1) items in
    let cut : drop place items ≡ item ∷ rest = next_item items place item low at in
    let first : both (Some x) (read_all rest) ≡ read_all (item ∷ rest) = ap (λ (o : Option A). both o (read_all rest)) is ∙ sym (goes item rest) in
    rw pushed (one_more xs x (read_all rest) ∙ (ap (option_map (λ ys. xs ++ ys)) (first ∙ ap read_all (sym cut)) ∙ so_far))

-- one item isn't one of these
pub found_stops : {A : Type 0} (read : Value Global → Option A) (read_all : List (Value Global) → Option (List A))
    → ((v : Value Global) (vs : List (Value Global)) → read_all (v ∷ vs) ≡ both (read v) (read_all vs))
    → (xs : List A) (items : List (Value Global)) (place : ℕ) (item : Value Global)
    → option_map (λ ys. xs ++ ys) (read_all (drop place items)) ≡ read_all items
    → place < length items → item ≡ get_or items place item → None ≡ read item → None ≡ read_all items
found_stops {A} read read_all goes xs items place item so_far low at none =
    let rest : List (Value Global) = drop (place + 1) items in
    let stops : None ≡ read_all (item ∷ rest) = ap (λ (o : Option A). both o (read_all rest)) none ∙ sym (goes item rest) in
    ap (option_map (λ ys. xs ++ ys)) (stops ∙ ap read_all (sym (next_item items place item low at))) ∙ so_far

-- all items were read
pub found_all : {A : Type 0} (read_all : List (Value Global) → Option (List A)) → read_all [] ≡ Some []
    → (xs : List A) (items : List (Value Global)) (place : ℕ)
    → option_map (λ ys. xs ++ ys) (read_all (drop place items)) ≡ read_all items → length items ≤ place → Some xs ≡ read_all items
found_all read_all none xs items place so_far long =
    let end : Some [] ≡ read_all (drop place items) = sym none ∙ ap read_all (sym (drop_all place items long)) in
    ap Some (sym (append-nil xs)) ∙ (ap (option_map (λ ys. xs ++ ys)) end ∙ so_far)

-- ---- items that are taken out of a list

module _ {A : Type 0} (read : Value Global → Option A) (read_all : List (Value Global) → Option (List A))
    (goes : (v : Value Global) (vs : List (Value Global)) → read_all (v ∷ vs) ≡ both (read v) (read_all vs))
    (xs : List A) (all rest : List (Value Global)) (item : Value Global) (r : Option (List A)) (cut : all ≡ item ∷ rest)
    (so_far : option_map (λ ys. xs ++ ys) (read_all all) ≡ r) where
  -- the next item was read
  pub found_next : (new : List A) (x : A) → Some x ≡ read item → new ≡ xs ++ x ∷ [] → option_map (λ ys. new ++ ys) (read_all rest) ≡ r
  found_next new x is pushed =
      let first : both (Some x) (read_all rest) ≡ read_all (item ∷ rest) = ap (λ (o : Option A). both o (read_all rest)) is ∙ sym (goes item rest) in
      rw pushed (one_more xs x (read_all rest) ∙ (ap (option_map (λ ys. xs ++ ys)) (first ∙ ap read_all (sym cut)) ∙ so_far))

  -- the next item isn't one of these
  pub found_none : None ≡ read item → None ≡ r
  found_none none =
      let stops : None ≡ read_all (item ∷ rest) = ap (λ (o : Option A). both o (read_all rest)) none ∙ sym (goes item rest) in
      ap (option_map (λ ys. xs ++ ys)) (stops ∙ ap read_all (sym cut)) ∙ so_far
