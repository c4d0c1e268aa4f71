-- The codes of refusals of a desk's calls.
use Rattle.std.specs.Prelude.{ℕ, Option, Some, None}
use Rattle.dl_desk.specs.declared.fault.DeskFault.{DeskFault}
use Rattle.dl_desk.specs.declared.fault.DeskFault.TheVariants.{NoBatch, NotSent, SettledBefore, CellsFull, OutOfMemory}
use Rattle.dl_c_values.specs.declared.codes.TheConstants.{DONE, OUT_OF_MEMORY, CELLS_FULL, NO_BATCH, NOT_SENT, ENDED_BEFORE}

-- the code of a refusal
abbrev pub code_of : DeskFault → ℕ
code_of OutOfMemory = OUT_OF_MEMORY
code_of (CellsFull limit) = CELLS_FULL
code_of NoBatch = NO_BATCH
code_of NotSent = NOT_SENT
code_of SettledBefore = ENDED_BEFORE

-- the code of a call that nothing refuses, or that a fault does
abbrev pub code_by : Option DeskFault → ℕ
code_by None = DONE
code_by (Some fault) = code_of fault
