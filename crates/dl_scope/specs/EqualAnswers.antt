-- When reports have the same answers.
use Rattle.std.specs.Prelude.{◌≡◌, List, length, map, Option, Some, None}
use Rattle.dl_values.specs.Answering.{by_function}
use Rattle.dl_history.specs.Lists.{Every}
use Rattle.dl_source.specs.Answer.{answer_of}
use Rattle.dl_source.specs.Tables.{Tables}
use Rattle.dl_terms.specs.Tree.{Tree}
use Rattle.dl_terms.specs.View.{term_view}
use Rattle.dl_terms.specs.declared.plan.Plan.{Plan}
use Rattle.dl_terms.specs.declared.plan.Step.{Step}
use Rattle.dl_terms.specs.declared.plan.Step.TheVariants.{Eval}
use Rattle.dl_scope.specs.Setup.{service_of}
use Rattle.dl_scope.specs.Headline.{Headline}
use Rattle.dl_scope.specs.OwnAnswers.{NoneFailed, PrimesNoKey}
use Rattle.dl_scope.specs.Report.{Report}
use Rattle.dl_scope.specs.declared.setup.Setup.{Setup}

-- the tree of the term that the step evaluates, if it evaluates one
abbrev pub evaluated : Step → Option Tree
evaluated (Eval term) = Some (term_view term)
evaluated step = None

-- the terms of the plan, each at the place of its step
abbrev pub evaluations : Plan → List (Option Tree)
evaluations plan = map evaluated plan.steps.items

-- a report of the plans, which some setup served by the tables; no batch failed, and no plan primes a key
pub record RestsOnTables (tables : Tables) (plans : List Plan) (r : Report) : Type 0 where
  pub setup : Setup
  pub headline : Headline (service_of setup (length plans) (by_function (answer_of tables))) plans r
  pub unfailed : NoneFailed r.history.events
  pub unprimed : Every (λ plan. Every PrimesNoKey plan.steps.items) plans

-- Reports of plans that evaluate the same terms at the same places, over the same tables, have the same answers.
abbrev pub AnswersAreEqual : Type 0
AnswersAreEqual = (tables : Tables) (plans others : List Plan) (r s : Report) → map evaluations plans ≡ map evaluations others
    → RestsOnTables tables plans r → RestsOnTables tables others s → r.answers ≡ s.answers
