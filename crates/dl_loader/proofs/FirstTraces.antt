-- The traces of callers that have made no call.
use Rattle.std.proofs.Common.{◌≡◌, ap, ℕ, zero, suc, ◌+◌, List, [], ◌∷◌, ◌++◌, map, refl, arith}
use Rattle.std.proofs.lemmas.List.{map-append}
use Rattle.dl_history.specs.Pass.{Trace, trace, new_traces}

-- one caller more
fresh-more : (k n : ℕ) → new_traces k (suc n) ≡ new_traces k n ++ trace (k + n) [] [] ∷ []
fresh-more k zero = let same : k + 0 ≡ k = omega arith in rw same refl
fresh-more k (suc n) = let next : k + 1 + n ≡ k + suc n = omega arith in ap (λ (ps : List Trace). trace k [] [] ∷ ps) (rw (← next) (fresh-more (k + 1) n))

-- a list of traces of the first callers, with that of the next
pub fresh_next : {X : Type 0} (f : X → Trace) (xs ys : List X) (x : X) (n : ℕ) → ys ≡ xs ++ x ∷ [] → f x ≡ trace n [] [] → map f xs ≡ new_traces 0 n
    → map f ys ≡ new_traces 0 (n + 1)
fresh_next f xs ys x n grown is before =
    let next : n + 1 ≡ suc n = omega arith in
    let low : 0 + n ≡ n = omega arith in
    let more : new_traces 0 (suc n) ≡ new_traces 0 n ++ trace n [] [] ∷ [] = rw low at (fresh-more 0 n) in
    rw (next, more, grown, map-append f xs (x ∷ []), before, is) refl
