-- What a step that was taken gave.
use Rattle.std.specs.Prelude.{ℕ, List, [], ◌∷◌, Option, None, Some}
use Rattle.dl_terms.specs.declared.answer.Answer.{Answer}
use Rattle.dl_haxl.specs.PlanEntries.{step_answer}
use Rattle.dl_haxl.specs.declared.step_answers.StepAnswer.{StepAnswer}

-- the answer of the step of this number, if it has a term
abbrev pub answers_of : ℕ → Option (Answer × ℕ) → List StepAnswer
answers_of number None = []
answers_of number (Some given) = step_answer number given.0 ∷ []

-- how many rounds it took
abbrev pub rounds_of : Option (Answer × ℕ) → ℕ
rounds_of None = 0
rounds_of (Some given) = given.1
