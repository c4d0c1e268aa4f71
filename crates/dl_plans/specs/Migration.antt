-- Why a document isn't migrated.
use Rattle.std.specs.Prelude.{◌≡◌, ℕ, List}
use Rattle.dl_documents.specs.Faults.{Applies, IsLeast}
use Rattle.dl_migration.specs.Migration.{IsOther}
use Rattle.dl_migration.specs.declared.target.Target.{Target}
use Rattle.dl_migration.specs.declared.target.Target.TheVariants.{Second, Third}
use Rattle.dl_plans.specs.declared.fault.RunError.{RunError}
use Rattle.dl_plans.specs.declared.fault.RunError.TheVariants.{Read, Refused, Run, Write, OutOfMemory, NotVersion1, NotVersion1Or2, NoHistory}

-- if the error says that a document is refused, the refusal is the first that applies to it; if it says that the
-- document isn't of an earlier version, this is a script or a plan file of no earlier one; no plans are served
abbrev pub IsNotMigrated : Target → List ℕ → RunError → Type 0
IsNotMigrated target bytes Read = Unit {0}
IsNotMigrated target bytes (Refused fault) = IsLeast (Applies bytes) fault
IsNotMigrated target bytes (Run fault) = ⊥
IsNotMigrated target bytes Write = Unit {0}
IsNotMigrated target bytes OutOfMemory = Unit {0}
IsNotMigrated target bytes NotVersion1 = (target ≡ Second) × IsOther target bytes
IsNotMigrated target bytes NotVersion1Or2 = (target ≡ Third) × IsOther target bytes
IsNotMigrated target bytes (NoHistory fault) = ⊥
