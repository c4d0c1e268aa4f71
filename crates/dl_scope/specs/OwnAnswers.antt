-- What terms answer by the tables alone: the same for every number of workers, for all limits, and whatever other plans
-- are served.
use Rattle.std.specs.Prelude.{◌≡◌, ℕ, List, length, map, Some, slice_get}
use Rattle.dl_values.specs.Answering.{MayAnswer, by_function}
use Rattle.dl_values.specs.Key.{Key}
use Rattle.dl_values.specs.declared.outcome.BatchAnswer.TheVariants as answered
use Rattle.dl_values.specs.declared.outcome.Outcome.{Outcome}
use Rattle.dl_history.specs.Lists.{Every}
use Rattle.dl_desk.specs.Service.{Service}
use Rattle.dl_desk.specs.declared.event.Call.{Call}
use Rattle.dl_desk.specs.declared.event.Call.TheVariants as call
use Rattle.dl_desk.specs.declared.event.Event.{Event}
use Rattle.dl_source.specs.Answer.{answer_of, found, outcome_of}
use Rattle.dl_source.specs.Tables.{Tables}
use Rattle.dl_terms.specs.TermAnswers.{Pairs, gives}
use Rattle.dl_terms.specs.Tree.{Tree}
use Rattle.dl_terms.specs.View.{term_view}
use Rattle.dl_terms.specs.declared.answer.Answer.{Answer}
use Rattle.dl_terms.specs.declared.term.Term.{Term}
use Rattle.dl_scope.specs.Setup.{service_of}
use Rattle.dl_scope.specs.Headline.{Headline}
use Rattle.dl_scope.specs.Report.{Report}
use Rattle.dl_terms.specs.declared.plan.Plan.{Plan}
use Rattle.dl_scope.specs.declared.setup.Setup.{Setup}
use Rattle.dl_terms.specs.declared.plan.Step.{Step}
use Rattle.dl_terms.specs.declared.plan.Step.TheVariants.{Prime, Eval}
use Rattle.dl_haxl.specs.declared.step_answers.StepAnswer.{StepAnswer}

-- if the source doesn't break, it gives each key the key's own outcome, whatever other keys it gets with it
abbrev pub AnswersOwn : Service → (Key → Outcome) → Type 0
AnswersOwn service own = (keys : List Key) (outcomes : List Outcome) → MayAnswer service.answer keys (answered.Each outcomes) → outcomes ≡ map own keys

-- the call primes no key
abbrev pub IsNoPrime : Call → Type 0
IsNoPrime (call.Prime k o) = ⊥
IsNoPrime c = Unit {0}

-- the call fails no batch
abbrev pub IsNoFail : Call → Type 0
IsNoFail (call.Fail b fault) = ⊥
IsNoFail c = Unit {0}

-- no event primes a key
abbrev pub NonePrimed : List Event → Type 0
NonePrimed events = Every (λ (e : Event). IsNoPrime e.call) events

-- no event fails a batch
abbrev pub NoneFailed : List Event → Type 0
NoneFailed events = Every (λ (e : Event). IsNoFail e.call) events

-- each key is paired with its own outcome
abbrev pub AreOwn : (Key → Outcome) → Pairs → Type 0
AreOwn own pairs = Every (λ p. p.1 ≡ own p.0) pairs

-- the term gives the answer from some keys, each with its own outcome
abbrev pub IsOwn : (Key → Outcome) → Tree → Answer → Type 0
IsOwn own t a = (pairs : Pairs) × AreOwn own pairs × gives t pairs a

-- a key's own outcome in the tables: its row, its error, or why they list nothing
abbrev pub listed : Tables → Key → Outcome
listed tables k = outcome_of (found tables k)

-- the step primes no key
abbrev pub PrimesNoKey : Step → Type 0
PrimesNoKey (Prime key outcome) = ⊥
PrimesNoKey step = Unit {0}

-- the answer is that of a term of the plan, by the tables alone
abbrev pub AnswersByTables : Tables → Plan → StepAnswer → Type 0
AnswersByTables tables plan given = (term : Term) × (slice_get plan.steps.items given.step ≡ Some (Eval term))
    × IsOwn (listed tables) (term_view term) given.answer

-- If no batch failed and no plan primes a key, each answer of a report is what its term gives by the tables alone.
abbrev pub AnswersAreOwn : Type 0
AnswersAreOwn = (tables : Tables) (setup : Setup) (plans : List Plan) (r : Report)
    → Headline (service_of setup (length plans) (by_function (answer_of tables))) plans r → NoneFailed r.history.events
    → Every (λ plan. Every PrimesNoKey plan.steps.items) plans
    → (n : ℕ) (plan : Plan) (answers : List StepAnswer) → slice_get plans n ≡ Some plan → slice_get r.answers n ≡ Some answers
    → Every (AnswersByTables tables plan) answers

-- by the tables alone a term has at most one answer
abbrev pub OwnAnswersAreOne : Type 0
OwnAnswersAreOne = (tables : Tables) (t : Tree) (a b : Answer) → IsOwn (listed tables) t a → IsOwn (listed tables) t b → a ≡ b
