-- Which answers are explained, and by what.
use Rattle.std.specs.Prelude.{◌≡◌, ℕ, Option, Some, None, IfSome}
use Rattle.dl_haxl.specs.declared.step_answers.StepAnswer.{StepAnswer}
use Rattle.dl_picture.specs.declared.origin.Origin.{Origin}
use Rattle.dl_plans.specs.declared.explanations.Explanation.{Explanation}
use Rattle.dl_terms.specs.declared.answer.Answer.{Answer}
use Rattle.dl_terms.specs.declared.answer.Answer.TheVariants.{Value, Fault}
use Rattle.dl_terms.specs.declared.answer.EvalFault.{EvalFault}

-- the fault that an answer is, if it is one
abbrev pub fault_of : Answer → Option EvalFault
fault_of (Value d) = None
fault_of (Fault f) = Some f

-- the explanation is of the step's fault; its origin, if it has one, is the one that was found, and of just this fault
pub record IsOfStep (number : ℕ) (given : StepAnswer) (found : Option Origin) (e : Explanation) : Type 0 where
  pub plan : e.plan ≡ number
  pub step : e.step ≡ given.step
  pub fault : fault_of given.answer ≡ Some e.fault.now
  pub origin : IfSome e.origin (λ o. found ≡ Some o.now)
  pub same : IfSome e.origin (λ o. o.now.fault ≡ e.fault.now)

-- what a step answers is explained exactly if it is a fault
abbrev pub Explains : ℕ → StepAnswer → Option Origin → Option Explanation → Type 0
Explains number given found None = fault_of given.answer ≡ None
Explains number given found (Some e) = IsOfStep number given found e
