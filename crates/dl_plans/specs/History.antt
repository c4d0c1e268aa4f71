-- What the bytes of a history's file are, and why they are none.
use Rattle.std.specs.Prelude.{◌≡◌, ℕ, ◌<◌, ◌≤◌, List, length}
use Rattle.dl_documents.specs.Faults.{most_bytes}
use Rattle.dl_documents.specs.declared.fault.PlanFault.TheVariants.{TooLarge}
use Rattle.dl_history.specs.ClosedHistory.{History}
use Rattle.dl_replay.specs.File.{IsFileFault, IsHistoryOf}
use Rattle.dl_plans.specs.declared.fault.RunError.{RunError}
use Rattle.dl_plans.specs.declared.fault.RunError.TheVariants.{Read, Refused, Run, Write, OutOfMemory, NotVersion1, NotVersion1Or2, NoHistory}

-- the bytes, as few as a document's, are the file of a history
abbrev pub HasHistory : List ℕ → Type 0
HasHistory bytes = (h : History) × (length bytes ≤ most_bytes) × IsHistoryOf bytes h

-- if the error says that a history is refused, its bytes are too many, or have such a fault
abbrev pub IsNoHistory : List ℕ → RunError → Type 0
IsNoHistory bytes Read = Unit {0}
IsNoHistory bytes (Refused fault) = (fault ≡ TooLarge) × (most_bytes < length bytes)
IsNoHistory bytes (Run fault) = ⊥
IsNoHistory bytes Write = Unit {0}
IsNoHistory bytes OutOfMemory = Unit {0}
IsNoHistory bytes NotVersion1 = ⊥
IsNoHistory bytes NotVersion1Or2 = ⊥
IsNoHistory bytes (NoHistory fault) = (length bytes ≤ most_bytes) × IsFileFault bytes fault
