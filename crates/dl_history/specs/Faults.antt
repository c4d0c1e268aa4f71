-- The refusals of a desk and a journal, as a loader has them.
use Rattle.dl_desk.specs.declared.fault.DeskFault.{DeskFault}
use Rattle.dl_desk.specs.declared.fault.DeskFault.TheVariants as desk_fault
use Rattle.dl_history.specs.declared.journal.append.AppendFault.{AppendFault}
use Rattle.dl_history.specs.declared.journal.append.AppendFault.TheVariants as append
use Rattle.dl_history.specs.declared.fault.CallFault.{CallFault}
use Rattle.dl_history.specs.declared.fault.CallFault.TheVariants.{NoBatch, NotSent, SettledBefore, CellsFull, OutOfMemory, LogRefused}

-- the desk's refusal as the loader's
abbrev pub call_fault : DeskFault → CallFault
call_fault desk_fault.NoBatch = NoBatch
call_fault desk_fault.NotSent = NotSent
call_fault desk_fault.SettledBefore = SettledBefore
call_fault (desk_fault.CellsFull limit) = CellsFull limit
call_fault desk_fault.OutOfMemory = OutOfMemory

-- the journal's refusal as the loader's
abbrev pub append_fault : AppendFault → CallFault
append_fault append.OutOfMemory = OutOfMemory
append_fault append.LogRefused = LogRefused
