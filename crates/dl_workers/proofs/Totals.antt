-- Sums over a list in which one element, or one element beside another, is looked at.
use Rattle.std.proofs.Common.{◌≡◌, ◌≢◌, ℕ, zero, suc, ◌+◌, ◌≤◌, Bool, List, [], ◌∷◌, ◌++◌, cond, sym, refl, ap, set, sum_by, count_by, arith}
use Rattle.std.proofs.lemmas.List.Sums.{sum_by-cons, sum_by-append}
use mathlib.Core.Option.{some, some-injective, some-ne-none}
use lib.ListN.{get_elem?}

module _ {A : Type 0} (f : A → ℕ) where
  -- the sum after one element was changed
  pub sum_by-set_at : (xs : List A) (i : ℕ) (x y : A) → get_elem? xs i ≡ some x → sum_by f (set xs i y) + f x ≡ sum_by f xs + f y
  sum_by-set_at [] i x y at = absurd (some-ne-none x (sym at))
  sum_by-set_at (z ∷ zs) zero x y at = let here = ap f (some-injective z x at) in omega (arith, sum_by-cons f z zs, sum_by-cons f y zs)
  sum_by-set_at (z ∷ zs) (suc i) x y at = let rest = sum_by-set_at zs i x y at in omega (arith, sum_by-cons f z zs, sum_by-cons f z (set zs i y))

  -- one element weighs at most the sum
  pub at-le-sum_by : (xs : List A) (i : ℕ) (x : A) → get_elem? xs i ≡ some x → f x ≤ sum_by f xs
  at-le-sum_by [] i x at = absurd (some-ne-none x (sym at))
  at-le-sum_by (z ∷ zs) zero x at = let here = ap f (some-injective z x at) in omega (arith, sum_by-cons f z zs)
  at-le-sum_by (z ∷ zs) (suc i) x at = let rest = at-le-sum_by zs i x at in omega (arith, sum_by-cons f z zs)

  -- two elements weigh at most the sum
  pub two_at-le-sum_by : (xs : List A) (i j : ℕ) (x y : A) → j ≢ i → get_elem? xs i ≡ some x → get_elem? xs j ≡ some y → f x + f y ≤ sum_by f xs
  two_at-le-sum_by [] i j x y other at there = absurd (some-ne-none x (sym at))
  two_at-le-sum_by (z ∷ zs) zero zero x y other at there = absurd (other refl)
  two_at-le-sum_by (z ∷ zs) zero (suc j) x y other at there =
      let here = ap f (some-injective z x at) in let rest = at-le-sum_by zs j y there in omega (arith, sum_by-cons f z zs)
  two_at-le-sum_by (z ∷ zs) (suc i) zero x y other at there =
      let here = ap f (some-injective z y there) in let rest = at-le-sum_by zs i x at in omega (arith, sum_by-cons f z zs)
  two_at-le-sum_by (z ∷ zs) (suc i) (suc j) x y other at there =
      let rest = two_at-le-sum_by zs i j x y (λ e. other (ap suc e)) at there in omega (arith, sum_by-cons f z zs)

  -- where no element weighs anything, the sum is 0
  pub sum_by-nothing : (xs : List A) → ((j : ℕ) (y : A) → get_elem? xs j ≡ some y → f y ≡ 0) → sum_by f xs ≡ 0
  sum_by-nothing [] none = refl
  sum_by-nothing (z ∷ zs) none =
      let here = none 0 z refl in let rest = sum_by-nothing zs (λ j y at. none (suc j) y at) in omega (arith, sum_by-cons f z zs)

  -- where no other element weighs anything, the sum is what this one weighs
  pub sum_by-only : (xs : List A) (i : ℕ) (x : A) → get_elem? xs i ≡ some x → ((j : ℕ) (y : A) → j ≢ i → get_elem? xs j ≡ some y → f y ≡ 0) → sum_by f xs ≡ f x
  sum_by-only [] i x at others = absurd (some-ne-none x (sym at))
  sum_by-only (z ∷ zs) zero x at others =
      let here = ap f (some-injective z x at) in
      let rest = sum_by-nothing zs (λ j y there. others (suc j) y (λ e. let wrong : suc j ≡ zero = e in omega arith) there) in
      omega (arith, sum_by-cons f z zs)
  sum_by-only (z ∷ zs) (suc i) x at others =
      let here = others 0 z (λ e. let wrong : zero ≡ suc i = e in omega arith) refl in
      let rest = sum_by-only zs i x at (λ j y n there. others (suc j) y (λ e. let same : suc j ≡ suc i = e in n (omega arith)) there) in
      omega (arith, sum_by-cons f z zs)

-- where one element has all of f, and what has nothing of f has nothing of g, that element has all of g
pub sum_by-whole : {A : Type 0} (f g : A → ℕ) (xs : List A) (i : ℕ) (x : A) → get_elem? xs i ≡ some x → sum_by f xs ≡ f x
    → ((j : ℕ) (y : A) → get_elem? xs j ≡ some y → f y ≡ 0 → g y ≡ 0) → sum_by g xs ≡ g x
sum_by-whole f g xs i x at all idle =
    sum_by-only g xs i x at (λ j y other there. idle j y there (let two = two_at-le-sum_by f xs i j x y other at there in omega arith))

-- how many pass a test, of two lists in a row
pub count_by-append : {A : Type 0} (test : A → Bool) (xs ys : List A) → count_by test (xs ++ ys) ≡ count_by test xs + count_by test ys
count_by-append test xs ys = sum_by-append (λ x. cond (test x) 1 0) xs ys
