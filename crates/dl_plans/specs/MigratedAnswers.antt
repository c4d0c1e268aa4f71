-- What a plan file answers before and after you migrate it.
use Rattle.std.specs.Prelude.{◌≡◌}
use Rattle.serde_json.specs.Data.{Data}
use Rattle.dl_documents.specs.Document.{SpellsPlans}
use Rattle.dl_documents.specs.declared.input.PlanFile.{PlanFile}
use Rattle.dl_history.specs.Lists.{Every}
use Rattle.dl_documents.specs.declared.input.Input.TheVariants.{Plans}
use Rattle.dl_migration.specs.Migrated.{migrated, number_of}
use Rattle.dl_migration.specs.Migration.{IsEarlier}
use Rattle.dl_migration.specs.declared.target.Target.{Target}
use Rattle.dl_scope.specs.Headline.{Headline}
use Rattle.dl_scope.specs.OwnAnswers.{NoneFailed, PrimesNoKey}
use Rattle.dl_scope.specs.Report.{Report}
use Rattle.dl_plans.specs.Run.{file_service}
use Rattle.dl_plans.specs.declared.settings.Options.{Options}

-- no plan of the file primes a key
abbrev pub PrimesNone : PlanFile → Type 0
PrimesNone file = Every (λ plan. Every PrimesNoKey plan.steps.items) file.plans.items

-- a report of the file, served as the options say, in which no batch failed
pub record IsUnfailedReport (options : Options) (file : PlanFile) (r : Report) : Type 0 where
  pub headline : Headline (file_service options file) file.plans.items r
  pub unfailed : NoneFailed r.history.events

-- A plan file of an earlier version that primes no key, and the file that its tree is after migrating, have the same
-- answers in all reports in which no batch failed, over the same database or over none.
abbrev pub MigratedAnswersAreEqual : Type 0
MigratedAnswersAreEqual = (target : Target) (d : Data) (first second : PlanFile) → SpellsPlans d first → IsEarlier target d (Plans first)
    → SpellsPlans (migrated (number_of target) d) second
    → PrimesNone first → (options others : Options) → options.database ≡ others.database
    → (r s : Report) → IsUnfailedReport options first r → IsUnfailedReport others second s → r.answers ≡ s.answers
