-- Which plan file a migrated document is.
use Rattle.std.specs.Prelude.{ℕ, ◌≤◌, List, length, Some}
use Rattle.serde_json.specs.Data.{Data}
use Rattle.dl_documents.specs.Document.{SpellsPlans}
use Rattle.dl_documents.specs.Faults.{most_bytes}
use Rattle.dl_documents.specs.OwnLimits.{own}
use Rattle.dl_documents.specs.declared.input.Input.TheVariants.{Plans}
use Rattle.dl_documents.specs.declared.input.PlanFile.{PlanFile}
use Rattle.dl_migration.specs.Migrated.{migrated, number_of}
use Rattle.dl_migration.specs.Migration.{IsEarlier, IsMigrated, ReadsAs}
use Rattle.dl_migration.specs.declared.target.Target.{Target}

-- the same tables, plans and limits, in a later version: a table of version 1 has no limit of its own
abbrev pub in_later_version : PlanFile → PlanFile
in_later_version file = record file { table_limits = Some (own file.table_limits) }

-- A tree that spells a plan file of an earlier version, migrated, spells the same file in the target's.
abbrev pub MigratedIsTheSame : Type 0
MigratedIsTheSame = (target : Target) (d : Data) (file : PlanFile) → SpellsPlans d file → IsEarlier target d (Plans file)
    → SpellsPlans (migrated (number_of target) d) (in_later_version file)

-- So the text of a plan file of an earlier version, migrated, reads as the same file in the target's, unless it is too
-- large to read.
abbrev pub MigratedReadsTheSame : Type 0
MigratedReadsTheSame = (target : Target) (bytes text : List ℕ) → IsMigrated target bytes text → length text ≤ most_bytes
    → (d : Data) × (file : PlanFile) × ReadsAs bytes d (Plans file) × ReadsAs text (migrated (number_of target) d) (Plans (in_later_version file))
