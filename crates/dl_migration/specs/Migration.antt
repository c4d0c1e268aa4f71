-- What you get if you migrate the bytes of a document.
use Rattle.std.specs.Prelude.{◌≡◌, ℕ, ◌<◌, List, Option, Some, codes, option_and_then}
use Rattle.serde_json.specs.Data.{Data}
use Rattle.serde_json.specs.Find.{as_number, as_u64, get}
use Rattle.serde_json.specs.Written.{compact_text}
use Rattle.dl_documents.specs.Document.{IsTextOf, Spells}
use Rattle.dl_documents.specs.Faults.{Applies, IsLeast}
use Rattle.dl_documents.specs.declared.fault.PlanFault.{PlanFault}
use Rattle.dl_documents.specs.declared.fault.PlanFault.TheVariants as plan
use Rattle.dl_documents.specs.declared.input.Input.{Input}
use Rattle.dl_documents.specs.declared.input.Input.TheVariants as input
use Rattle.dl_migration.specs.Migrated.{migrated, number_of}
use Rattle.dl_migration.specs.declared.fault.MigrateFault.{MigrateFault}
use Rattle.dl_migration.specs.declared.fault.MigrateFault.TheVariants.{Refused, NotVersion1, NotVersion1Or2, OutOfMemory}
use Rattle.dl_migration.specs.declared.target.Target.{Target}
use Rattle.dl_migration.specs.declared.target.Target.TheVariants.{Second, Third}

-- the bytes are the text of the tree, which says this, and nothing of them is refused
pub record ReadsAs (bytes : List ℕ) (d : Data) (i : Input) : Type 0 where
  pub text : IsTextOf bytes d
  pub spelled : Spells d i
  pub passes : (f : PlanFault) → Applies bytes f → ⊥

-- the natural number in the member `version`
abbrev pub version_in : Data → Option ℕ
version_in d = option_and_then (λ v. option_and_then as_u64 (as_number v)) (get (codes "version") d)

-- what was read of the tree is a plan file of an earlier version than the target's
abbrev pub IsEarlier : Target → Data → Input → Type 0
IsEarlier target d (input.Script s) = ⊥
IsEarlier target d (input.Plans file) = (n : ℕ) × (version_in d ≡ Some n) × (n < number_of target)

-- the bytes are a plan file of an earlier version, and the text is that of its tree in the target's, compact, and is
-- again a text of that tree
pub record IsMigrated (target : Target) (bytes text : List ℕ) : Type 0 where
  pub tree : Data
  pub said : Input
  pub reads : ReadsAs bytes tree said
  pub earlier : IsEarlier target tree said
  pub compact : text ≡ compact_text (migrated (number_of target) tree)
  pub again : IsTextOf text (migrated (number_of target) tree)

-- the bytes are a script, or a plan file of no earlier version
pub record IsOther (target : Target) (bytes : List ℕ) : Type 0 where
  pub tree : Data
  pub said : Input
  pub reads : ReadsAs bytes tree said
  pub other : IsEarlier target tree said → ⊥

-- the fault of reading, as one of migrating
abbrev pub unmigrated : PlanFault → MigrateFault
unmigrated plan.OutOfMemory = OutOfMemory
unmigrated f = Refused f

-- the fault of a document that isn't of an earlier version
abbrev pub late : Target → MigrateFault
late Second = NotVersion1
late Third = NotVersion1Or2

-- Why there is no text: reading refuses the bytes, they aren't a plan file of an earlier version, or memory runs out.
abbrev pub IsUnmigrated : Target → List ℕ → MigrateFault → Type 0
IsUnmigrated target bytes (Refused f) = IsLeast (Applies bytes) f
IsUnmigrated target bytes NotVersion1 = (target ≡ Second) × IsOther target bytes
IsUnmigrated target bytes NotVersion1Or2 = (target ≡ Third) × IsOther target bytes
IsUnmigrated target bytes OutOfMemory = Unit {0}
