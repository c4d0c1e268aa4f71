-- Cells that are begun: lists with so many copies of one more, and what is left once these are taken back.
use Rattle.std.proofs.Common.{◌≡◌, ◌∙◌, sym, ap, ℕ, zero, suc, ◌+◌, List, [], ◌∷◌, ◌++◌, length, take, refl, append_assoc, length-append}
use Rattle.std.proofs.lemmas.List.{take_at}
use Rattle.std.specs.List.{repeat}
use Rattle.dl_history.proofs.ListLemmas.{length-repeat_one}

-- one copy more, at the end
repeat-push : {X : Type 0} (n : ℕ) (x : X) → repeat n (x ∷ []) ++ x ∷ [] ≡ repeat (suc n) (x ∷ [])
repeat-push zero x = refl
repeat-push {X} (suc n) x = ap (λ (xs : List X). x ∷ xs) (repeat-push n x)

-- how many cells there are, with so many more
pub length-begun : {X : Type 0} (before now : List X) (n : ℕ) (x : X) → now ≡ before ++ repeat n (x ∷ []) → length now ≡ length before + n
length-begun before now n x grown = ap length grown ∙ (length-append before (repeat n (x ∷ [])) ∙ ap (λ k. length before + k) (length-repeat_one n x))

-- one cell more, after so many
pub begun_more : {X : Type 0} (before now next : List X) (n : ℕ) (x : X) → now ≡ before ++ repeat n (x ∷ []) → next ≡ now ++ x ∷ []
    → next ≡ before ++ repeat (suc n) (x ∷ [])
begun_more {X} before now next n x grown more =
    more ∙ (ap (λ (xs : List X). xs ++ x ∷ []) grown ∙ (append_assoc before (repeat n (x ∷ [])) (x ∷ [])
    ∙ ap (λ (xs : List X). before ++ xs) (repeat-push n x)))

-- and those that were there before, once all others are taken back
pub begun_cut : {X : Type 0} (before now cut : List X) (first n : ℕ) (x : X) → now ≡ before ++ repeat n (x ∷ []) → first ≡ length before
    → cut ≡ take first now → cut ≡ before
begun_cut before now cut first n x grown at is = is ∙ (ap (take first) grown ∙ take_at before (repeat n (x ∷ [])) first (sym at))
