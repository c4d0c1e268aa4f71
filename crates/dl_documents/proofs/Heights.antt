-- The tests of heights and of numbers of steps.
use Rattle.std.proofs.Common.{◌≡◌, inl, inr, ℕ, suc, ◌≤◌, List, length, map, true, false, Some, None, sym, ◌∙◌, arith, nat_lt, true≢false}
use Rattle.std.proofs.lemmas.Bool.{cases_lt, le-leb, leb-true}
use Rattle.std.specs.List.{AllByRecursion, position}
use Rattle.dl_terms.specs.Tree.{height_of}
use Rattle.dl_terms.specs.declared.plan.Plan.{Plan}
use Rattle.dl_terms.specs.declared.plan.Step.{Step}
use Rattle.dl_documents.specs.Steps.{StepTree, eval, step_view, plan_view, IsLow, most_height, most_steps}
use Rattle.dl_documents.specs.Inside.Places.{IsFirst}
use Rattle.dl_documents.specs.Inside.PlanFiles.{is_high, is_long, IsHigh, AreLow, AreFew, AreMany}
use Rattle.dl_documents.proofs.Positions.{first_place, no_place}

-- a number that isn't above another
pub not_above : (a b : ℕ) → nat_lt a b ≡ false → b ≤ a
not_above a b e =
    elim (cases_lt a b) [
      | inl under ↦ absurd (true≢false (sym (le-leb (suc a) b under) ∙ e))
      | inr over ↦ over
    ]

high : (y : StepTree) → is_high y ≡ true → IsHigh y
high (eval t) e = leb-true (suc most_height) (height_of t) e
high y e = absurd (true≢false (sym e))

low : (y : StepTree) → is_high y ≡ false → IsLow y
low (eval t) e = not_above most_height (height_of t) e
low y e = tt

pub not_low : (y : StepTree) → IsLow y → IsHigh y → ⊥
not_low (eval t) is high = omega arith
not_low y is high = high

-- the first step that is too high
pub first_high_place : (steps : List Step) (i : ℕ) → position (λ s. is_high (step_view s)) steps ≡ Some i → IsFirst IsHigh (map step_view steps) i
first_high_place = first_place step_view is_high IsHigh IsLow high low not_low

pub no_high_place : (steps : List Step) → position (λ s. is_high (step_view s)) steps ≡ None → AreLow (map step_view steps)
no_high_place = no_place step_view is_high IsHigh IsLow high low not_low

-- ---- numbers of steps

not_few : (plan : List StepTree) → AreFew plan → AreMany plan → ⊥
not_few plan few many = omega arith

many : (plan : List StepTree) → is_long plan ≡ true → AreMany plan
many plan e = leb-true (suc most_steps) (length plan) e

few : (plan : List StepTree) → is_long plan ≡ false → AreFew plan
few plan e = not_above most_steps (length plan) e

-- the first plan that has too many steps
pub first_long_place : (plans : List Plan) (i : ℕ) → position (λ p. is_long (plan_view p)) plans ≡ Some i → IsFirst AreMany (map plan_view plans) i
first_long_place = first_place plan_view is_long AreMany AreFew many few not_few

pub no_long_place : (plans : List Plan) → position (λ p. is_long (plan_view p)) plans ≡ None → AllByRecursion AreFew (map plan_view plans)
no_long_place = no_place plan_view is_long AreMany AreFew many few not_few
