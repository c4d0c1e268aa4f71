-- The status with which the program ends.
use Rattle.std.specs.Prelude.{ℕ}
use Rattle.std.specs.declared.io.ErrorKind as io
use Rattle.std.specs.declared.io.ErrorKind.TheVariants as io_kind
use Rattle.clap.specs.declared.error.kind.ErrorKind.{ErrorKind}
use Rattle.clap.specs.declared.error.kind.ErrorKind.TheVariants as kind
use Rattle.dl_plans.specs.declared.fault.RunError.{RunError}
use Rattle.dl_plans.specs.declared.fault.RunError.TheVariants.{Read, Refused, Run, Write, OutOfMemory, NotVersion1, NotVersion1Or2, NoHistory}

-- it answered the document, or printed the help
abbrev pub status_ran : ℕ
status_ran = 0

-- the document or the history is refused, or the document doesn't have the version it must have
abbrev pub status_refused : ℕ
status_refused = 1

-- the command line is refused
abbrev pub status_usage : ℕ
status_usage = 2

-- any other failure
abbrev pub status_failed : ℕ
status_failed = 3

-- the status of a run that fails
abbrev pub run_status : RunError → ℕ
run_status Read = status_failed
run_status (Refused fault) = status_refused
run_status (Run fault) = status_failed
run_status Write = status_failed
run_status OutOfMemory = status_failed
run_status NotVersion1 = status_refused
run_status NotVersion1Or2 = status_refused
run_status (NoHistory fault) = status_refused

-- the status of a command line that gives no options
abbrev pub command_status : ErrorKind → ℕ
command_status kind.DisplayHelp = status_ran
command_status kind.DisplayVersion = status_ran
command_status kind.OutOfMemory = status_failed
command_status _ = status_usage

-- the status of a command line that can't be read
abbrev pub words_status : io.ErrorKind → ℕ
words_status io_kind.OutOfMemory = status_failed
words_status _ = status_usage
