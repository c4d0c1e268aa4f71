-- A walk through a list that compares each name with those before it finds each repetition.
use Rattle.std.proofs.Common.{◌≡◌, ℕ, List, [], ◌∷◌, ◌++◌, Bool, true, false, ◌||◌, take, drop, length, get_or, ◌<◌, ◌+◌, ap, sym, ◌∙◌, refl}
use Rattle.std.proofs.Common.{bytes_eq, true≢false}
use Rattle.std.specs.List.{list_any}
use Rattle.std.proofs.lemmas.List.{drop_more, take_more}
use Rattle.std.proofs.lemmas.List.Folds.{list_any-append}
use Rattle.std.proofs.lemmas.Slice.Eq.{bytes_eq-Decides}
use Rattle.std.proofs.lemmas.Bool.Decides.{same_from_decides}
use Rattle.dl_values.specs.TableLimits.{lists, repeats}

pub bytes_eq-comm : (x y : List ℕ) → bytes_eq x y ≡ bytes_eq y x
bytes_eq-comm x y =
    let back = bytes_eq-Decides y x in
    same_from_decides (bytes_eq x y) (bytes_eq y x) (bytes_eq-Decides x y) (λ e. sym (back.0 e), λ e. back.1 (sym e))

or_false : (b : Bool) → (b || false) ≡ b
or_false true = refl
or_false false = refl

or_apart : (a b c d : Bool) → ((a || b) || (c || d)) ≡ (a || ((b || c) || d))
or_apart true b c d = refl
or_apart false true c d = refl
or_apart false false c d = refl

or_inside : (a b c d : Bool) → ((a || b) || (c || d)) ≡ ((a || c) || (b || d))
or_inside true b c d = refl
or_inside false true true d = refl
or_inside false true false d = refl
or_inside false false c d = refl

module _ {X : Type 0} where
  -- a name of the rest stands in front, or twice in the rest
  abbrev pub clashes : List (List ℕ × X) → List (List ℕ × X) → Bool
  clashes front rest = list_any (λ e. lists e.0 front) rest || repeats rest

  pub none_in_front : (rest : List (List ℕ × X)) → list_any (λ e. lists {X = X} e.0 []) rest ≡ false
  none_in_front [] = refl
  none_in_front (e ∷ rest) = none_in_front rest

  -- before the walk
  pub clashes_first : (rest : List (List ℕ × X)) → clashes [] rest ≡ repeats rest
  clashes_first rest = ap (λ b. b || repeats rest) (none_in_front rest)

  lists-last : (name : List ℕ) (front : List (List ℕ × X)) (e : List ℕ × X) → lists name (front ++ e ∷ []) ≡ (lists name front || bytes_eq e.0 name)
  lists-last name front e =
      list_any-append (λ f. bytes_eq name f.0) front (e ∷ []) ∙ ap (λ b. lists name front || b) (or_false (bytes_eq name e.0) ∙ bytes_eq-comm name e.0)

  any-last : (front rest : List (List ℕ × X)) (e : List ℕ × X) → list_any (λ f. lists f.0 (front ++ e ∷ []))
      rest ≡ (list_any (λ f. lists f.0 front) rest || lists e.0 rest)
  any-last front [] e = refl
  any-last front (f ∷ rest) e =
      ap (λ b. b || list_any (λ g. lists g.0 (front ++ e ∷ [])) rest) (lists-last f.0 front e)
      ∙ ap (λ b. (lists f.0 front || bytes_eq e.0 f.0) || b) (any-last front rest e)
      ∙ or_inside (lists f.0 front) (bytes_eq e.0 f.0) (list_any (λ g. lists g.0 front) rest) (lists e.0 rest)

  -- a step of the walk
  pub clashes_next : (front rest : List (List ℕ × X)) (e : List ℕ × X) → clashes front (e ∷ rest) ≡ (lists e.0 front || clashes (front ++ e ∷ []) rest)
  clashes_next front rest e =
      or_apart (lists e.0 front) (list_any (λ f. lists f.0 front) rest) (lists e.0 rest) (repeats rest)
      ∙ ap (λ b. lists e.0 front || (b || repeats rest)) (sym (any-last front rest e))

  module _ (es : List (List ℕ × X)) (i : ℕ) (e : List ℕ × X) (lt : i < length es) (is : e ≡ get_or es i e) where
    pub take_next : take (i + 1) es ≡ take i es ++ e ∷ []
    take_next = take_more es i e lt ∙ ap (λ x. take i es ++ x ∷ []) (sym is)

    -- a test of the rest, at an index
    pub any_at : (p : List ℕ × X → Bool) → list_any p (drop i es) ≡ (p e || list_any p (drop (i + 1) es))
    any_at p = ap (list_any p) (drop_more es i e lt) ∙ ap (λ x. p x || list_any p (drop (i + 1) es)) (sym is)

    -- the walk's step at an index
    pub clashes_at : clashes (take i es) (drop i es) ≡ (lists e.0 (take i es) || clashes (take (i + 1) es) (drop (i + 1) es))
    clashes_at =
        ap (clashes (take i es)) (drop_more es i e lt)
        ∙ ap (λ x. clashes (take i es) (x ∷ drop (i + 1) es)) (sym is)
        ∙ clashes_next (take i es) (drop (i + 1) es) e
        ∙ ap (λ front. lists e.0 (take i es) || clashes front (drop (i + 1) es)) (sym take_next)

    module _ (r : Bool) (walk : clashes (take i es) (drop i es) ≡ r) where
      -- the name stood before
      pub found_again : lists e.0 (take i es) ≡ true → true ≡ r
      found_again again = sym (ap (λ b. b || clashes (take (i + 1) es) (drop (i + 1) es)) again) ∙ sym clashes_at ∙ walk

      -- the name is new
      pub goes_on : lists e.0 (take i es) ≡ false → clashes (take (i + 1) es) (drop (i + 1) es) ≡ r
      goes_on new = sym (ap (λ b. b || clashes (take (i + 1) es) (drop (i + 1) es)) new) ∙ sym clashes_at ∙ walk

pub or_left_false : (a b : Bool) → (a || b) ≡ false → a ≡ false
or_left_false true b h = h
or_left_false false b h = refl

pub or_right_false : (a b : Bool) → (a || b) ≡ false → b ≡ false
or_right_false true b h = absurd (true≢false h)
or_right_false false b h = h
