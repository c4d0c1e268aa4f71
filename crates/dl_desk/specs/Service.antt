-- What a loader serves by.
use Rattle.std.specs.Prelude.{◌≡◌, ℕ, List, [], None, length}
use Rattle.dl_values.specs.Key.{Key}
use Rattle.dl_values.specs.Limits.{Rules}
use Rattle.dl_values.specs.Answering.{Answering, IsWithin, MayAnswer, by_function}
use Rattle.dl_values.specs.declared.outcome.BatchAnswer.TheVariants.{Each, Break}
use Rattle.dl_values.specs.declared.outcome.Outcome.{Outcome}

-- What a loader serves by: how it makes batches, how many callers it has, and what its source may answer.
pub record Service : Type 0 where
  pub rules : Rules
  pub callers : ℕ
  pub answer : Answering

abbrev pub service : Rules → ℕ → Answering → Service
service rules callers answer = record { rules = rules; callers = callers; answer = answer }

-- an answer that does not break has an outcome for each key
abbrev pub AnswersEach : Answering → Type 0
AnswersEach answer = (ks : List Key) (os : List Outcome) → MayAnswer answer ks (Each os) → length os ≡ length ks

-- whatever this source may answer, the service's source may
abbrev pub Answers : Answering → Service → Type 0
Answers source service = IsWithin source service.answer

-- what serves nothing, for a type that names no loader
abbrev pub no_service : Service
no_service = service (record { limits = record { max_batch = 0; max_cells = 0; max_calls = 0 }; tables = None }) 0 (by_function (λ keys. Break []))
