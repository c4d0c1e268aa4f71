-- The events of a host, made again one after another on a loader, and why what it says is no history.
use Rattle.std.specs.Prelude.{◌≡◌, ℕ, ◌≤◌, ◌⊎◌, List, [], ◌∷◌, ◌++◌, length, map, take, slice_get, Option, Some, None, Bool}
use Rattle.dl_values.specs.Limits.{Rules}
use Rattle.dl_values.specs.declared.job.Job.{Job}
use Rattle.dl_desk.specs.Legal.{call_of}
use Rattle.dl_desk.specs.Service.{Service, Answers}
use Rattle.dl_desk.specs.declared.call.DeskCall.{DeskCall}
use Rattle.dl_desk.specs.declared.call.DeskCall.TheVariants.{Load, LoadMany, Prime, Clear, ClearAll, Dispatch, Settle, Fail}
use Rattle.dl_desk.specs.declared.event.Call.{Call}
use Rattle.dl_desk.specs.declared.event.Event.{Event}
use Rattle.dl_history.specs.Accounts.{account_of}
use Rattle.dl_history.specs.declared.fault.CallFault.{CallFault}
use Rattle.dl_history.specs.declared.fault.CallFault.TheVariants as call
use Rattle.dl_history.specs.declared.fault.CloseFault.{CloseFault}
use Rattle.dl_loader.specs.Book.{Keeps}
use Rattle.dl_loader.specs.CloseRefusals.{RefusesClose}
use Rattle.dl_loader.specs.SerialLoader.{Serial, IsRefused}
use Rattle.dl_loader.specs.HostSource.{by_marks}
use Rattle.dl_loader.specs.HostJobs.{job_now}
use Rattle.dl_replay.specs.Told.{Line, line, line_of, lines}
use Rattle.dl_replay.specs.declared.fault.Wrong.{Wrong}
use Rattle.dl_replay.specs.declared.fault.Wrong.TheVariants.{Caller, Refused, Answer}
use Rattle.dl_replay.specs.declared.fault.ReplayFault.{ReplayFault}
use Rattle.dl_replay.specs.declared.fault.ReplayFault.TheVariants as replay
use Rattle.dl_replay.specs.declared.told.Told.{Told}

-- ---- one call

-- a service whose source may answer as a host's does
abbrev pub IsForHosts : Service → Type 0
IsForHosts service = Answers by_marks service

-- the call is made, and this line has its event, the last of the history
pub record MakesLine (l : Line) (old new : Serial) : Type 0 where
  pub event : Event
  pub told : line_of event ≡ l
  pub history : new.book.history ≡ old.book.history ++ event ∷ []

-- the line of a call and its answer in numbers
abbrev pub line_as : ℕ → DeskCall → List ℕ → Line
line_as caller call numbers = record { caller = caller; call = call; answer = numbers }

-- the job by which a call ends a batch, if it ends one
abbrev pub job_for : DeskCall → Serial → Option Job
job_for (Load k) s = None
job_for (LoadMany ks) s = None
job_for (Prime k) s = None
job_for (Clear k) s = None
job_for ClearAll s = None
job_for Dispatch s = None
job_for (Settle b) s = Some (job_now b s)
job_for (Fail b) s = Some (job_now b s)

-- why a call isn't made: memory is short, or the loader refuses it so
abbrev pub IsCallRefused : Service → ℕ → DeskCall → Serial → CallFault → Type 0
IsCallRefused service caller asked s fault =
    (fault ≡ call.OutOfMemory) ⊎ ((c : Call) × (call_of c ≡ asked) × IsRefused service caller c (job_for asked s) s fault)

-- ---- a wrong event

-- what is told of a call can't come next: there is no such caller, the loader refuses the call, or its event is told otherwise
abbrev pub IsWrong : Service → DeskCall → Told → Serial → Wrong → Type 0
IsWrong service asked told s Caller = service.callers ≤ told.caller
IsWrong service asked told s (Refused fault) = IsCallRefused service told.caller asked s fault
IsWrong service asked told s Answer = (numbers : List ℕ) × ((numbers ≡ told.answer.items) → ⊥) × (new : Serial) × Keeps service new.book
    × MakesLine (line_as told.caller asked numbers) s new

-- ---- all events

-- the loader has made the calls up to this number, as they are told
pub record HasMade (service : Service) (calls : List DeskCall) (told : List Told) (count : ℕ) (s : Serial) : Type 0 where
  pub keeps : Keeps service s.book
  pub are : map line_of s.book.history ≡ take count (lines calls told)

-- the first event that is wrong: those before it aren't
pub record IsFirstWrong (service : Service) (calls : List DeskCall) (told : List Told) (at : ℕ) (wrong : Wrong) : Type 0 where
  pub s : Serial
  pub before : HasMade service calls told at s
  pub asked : DeskCall
  pub is_asked : slice_get calls at ≡ Some asked
  pub of_host : Told
  pub is_told : slice_get told at ≡ Some of_host
  pub is_wrong : IsWrong service asked of_host s wrong

-- Why what is told is no history: its first event that is wrong, or else why the loader that made all of them doesn't close.
abbrev pub IsReplayFault : Service → List DeskCall → List Told → ReplayFault → Type 0
IsReplayFault service calls told (replay.Event at wrong) = IsFirstWrong service calls told at wrong
IsReplayFault service calls told (replay.Close fault) = (s : Serial) × HasMade service calls told (length calls) s
    × RefusesClose service.callers s.book (map account_of s.traces) fault
IsReplayFault service calls told replay.OutOfMemory = Unit {0}
