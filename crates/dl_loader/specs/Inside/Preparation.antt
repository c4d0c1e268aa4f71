-- What is prepared for an event call before its event is stored.
use Rattle.std.specs.Prelude.{◌≡◌, ℕ, ◌⊎◌, List, [], ◌∷◌, length, map, Option, Some, None}
use Rattle.dl_values.specs.Answering.{Answering}
use Rattle.dl_values.specs.declared.job.Job.{Job}
use Rattle.dl_desk.specs.History.{Atom, members, prime_reply}
use Rattle.dl_desk.specs.Calls.{after}
use Rattle.dl_desk.specs.declared.call.DeskCall.{DeskCall}
use Rattle.dl_desk.specs.BatchBook.{BatchBook, Desk, StandsFor}
use Rattle.dl_desk.specs.declared.reply.DeskPrime.{DeskPrime}
use Rattle.dl_desk.specs.declared.reply.DeskPrime.TheVariants as prime
use Rattle.dl_desk.specs.declared.event.Call.{Call}
use Rattle.dl_desk.specs.declared.event.Call.TheVariants.{Prime, Settle, Fail}
use Rattle.dl_desk.specs.declared.event.Reply.{Reply}
use Rattle.dl_desk.specs.declared.event.Reply.TheVariants.{Primed}
use Rattle.dl_desk.specs.Legal.{MayBeMade, reply_to}
use Rattle.dl_loader.specs.declared.dues.Due.{Due}
use Rattle.dl_history.specs.declared.fault.CallFault.{CallFault}
use Rattle.dl_history.specs.declared.fault.CallFault.TheVariants.{OutOfMemory}
use Rattle.dl_loader.specs.Inside.Dues.{AreDue}
use Rattle.dl_loader.specs.Refusals.{cause}

abbrev pub cell_primed : DeskPrime → List ℕ
cell_primed (prime.Primed c) = c ∷ []
cell_primed prime.Kept = []

-- the cells that a call ends after a history, in order
abbrev pub cells_ended : List Atom → Call → List ℕ
cells_ended history (Prime k o) = cell_primed (prime_reply history k)
cells_ended history (Settle b os) = map (λ m. m.1) (members history b)
cells_ended history (Fail b fault) = map (λ m. m.1) (members history b)
cells_ended history call = []

-- how many these are, told by the job that is ended, or else by the reply
abbrev pub ended_count : Option Job → Reply → ℕ
ended_count (Some job) reply = length job.keys
ended_count None (Primed c) = 1
ended_count None reply = 0

-- what is asked: a call, with the job that it ends, if any, and which sources may answer what it brings
pub record AskedCall : Type 1 where
  pub call : Call
  pub job : Option Job
  pub brings : Answering → Type 0

-- what is prepared for its event: the place, the reply, and the dues of the cells that it ends
pub record PreparedEvent : Type 0 where
  pub at : ℕ
  pub reply : Reply
  pub dues : List Due

-- A desk has accepted the call, and will reply so. Where it brings what the loader's source may answer, it may be made, and
-- these are the ends that it gives to its cells.
pub record IsPrepared (desk : BatchBook) (asked : AskedCall) (event : PreparedEvent) : Type 0 where
  pub accepted : (h : List Atom) → StandsFor desk h → cause desk.rules h asked.call asked.job ≡ None
  pub replies : (h : List Atom) → StandsFor desk h → event.reply ≡ reply_to desk.rules h asked.call
  pub may : (answer : Answering) → asked.brings answer → (h : List Atom) → StandsFor desk h → MayBeMade answer h asked.call
  pub gives : (h : List Atom) → StandsFor desk h → AreDue asked.call event.at (cells_ended h asked.call) event.dues
  pub each : length event.dues ≡ ended_count asked.job event.reply

-- the call is refused so, whichever history the desk stands for
abbrev pub Refuses : BatchBook → Call → Option Job → CallFault → Type 0
Refuses desk call job fault = (h : List Atom) → StandsFor desk h → (fault ≡ OutOfMemory) ⊎ (cause desk.rules h call job ≡ Some fault)

-- what is prepared in the desk is this call
abbrev pub IsReady : Desk → DeskCall → Type 0
IsReady desk call = (h : List Atom) → StandsFor desk.book h → StandsFor desk.prepared (after desk.book.rules h call)

-- The desk has made a call: whichever history it stood for, it stands for the one after the call.
pub record Steps (old new : BatchBook) (call : DeskCall) : Type 0 where
  pub rules : new.rules ≡ old.rules
  pub stands : (h : List Atom) → StandsFor old h → StandsFor new (after old.rules h call)
