-- The codes of refusals: of a loader's calls, of its start and of its close.
use Rattle.std.specs.Prelude.{ℕ}
use Rattle.dl_history.specs.declared.fault.CallFault.{CallFault}
use Rattle.dl_history.specs.declared.fault.CallFault.TheVariants as call
use Rattle.dl_history.specs.declared.fault.CloseFault.{CloseFault}
use Rattle.dl_history.specs.declared.fault.CloseFault.TheVariants as close
use Rattle.dl_history.specs.declared.fault.StartFault.{StartFault}
use Rattle.dl_history.specs.declared.fault.StartFault.TheVariants as start
use Rattle.dl_c_values.specs.declared.codes.TheConstants.{OUT_OF_MEMORY, CELLS_FULL, NO_BATCH, NOT_SENT, ENDED_BEFORE}
use Rattle.dl_c_values.specs.declared.codes.TheConstants.{BAD_CALLERS, STOPPED, LOG_FULL, UNSETTLED, BUG}

-- the code of a refused call
abbrev pub call_code : CallFault → ℕ
call_code call.Stopped = STOPPED
call_code (call.Behind front len) = BUG
call_code (call.LogFull limit) = LOG_FULL
call_code call.NoBatch = NO_BATCH
call_code call.NotSent = NOT_SENT
call_code call.SettledBefore = ENDED_BEFORE
call_code call.WrongKeys = BUG
call_code (call.CellsFull limit) = CELLS_FULL
call_code call.OutOfMemory = OUT_OF_MEMORY
call_code call.LogRefused = BUG

-- the code of a refused close
abbrev pub close_code : CloseFault → ℕ
close_code (close.PassesMissing want got) = BUG
close_code (close.Behind front len) = BUG
close_code (close.Unshown cell) = BUG
close_code (close.Unsettled batch) = UNSETTLED
close_code close.OutOfMemory = OUT_OF_MEMORY

-- the code of a refused start
abbrev pub start_code : StartFault → ℕ
start_code start.NoCallers = BAD_CALLERS
start_code start.TooManyCallers = BAD_CALLERS
start_code start.OutOfMemory = OUT_OF_MEMORY
