-- What contracts see of a serial loader, what it keeps, and what its calls leave.
use Rattle.std.specs.Prelude.{◌≡◌, ℕ, Bool, false, List, length, set, Some, Option, slice_get}
use Rattle.dl_values.specs.declared.job.Job.{Job}
use Rattle.dl_desk.specs.declared.event.Call.{Call}
use Rattle.dl_desk.specs.declared.event.Ending.{Ending}
use Rattle.dl_desk.specs.declared.event.Reply.{Reply}
use Rattle.dl_desk.specs.Service.{Service, AnswersEach}
use Rattle.dl_history.specs.declared.fault.CallFault.{CallFault}
use Rattle.dl_history.specs.Flags.{known_flags}
use Rattle.dl_history.specs.Pass.{Trace, given, with_saw}
use Rattle.dl_loader.specs.Book.{Book, book}
use Rattle.dl_loader.specs.EventEffect.{Makes}
use Rattle.dl_loader.specs.Refusals.{IsRefusal}

-- what contracts see: the book, and the traces of the callers, by their numbers
pub record Serial : Type 0 where
  pub book : Book
  pub traces : List Trace

abbrev pub serial : Book → List Trace → Serial
serial b traces = record { book = b; traces = traces }

-- the book of a loader that is stopped or isn't
abbrev pub book_if : Bool → Book → Book
book_if stopped b = book b.history b.desk b.cells (known_flags stopped b.flags.refused)

-- ---- what it keeps

-- each of the traces is that of the caller whose number is its place
abbrev pub AreNumbered : List Trace → Type 0
AreNumbered traces = (n : ℕ) (p : Trace) → slice_get traces n ≡ Some p → p.caller ≡ n

-- what holds of the fields: each caller has a trace and a part of the ledger, and an answer of the source has an outcome for
-- each key, unless it breaks
pub record IsSerial (callers parts : ℕ) (own : Service) (fields : Serial) : Type 0 where
  pub callers_are : callers ≡ own.callers
  pub parts_are : parts ≡ own.callers
  pub answers : AnswersEach own.answer
  pub unstopped : fields.book.flags.stopped ≡ false
  pub each : length fields.traces ≡ own.callers
  pub numbered : AreNumbered fields.traces

-- ---- what calls leave

-- A call of a caller is made: its event is the last of the book, and the last call of the caller. No other caller's trace changes.
pub record IsMade (caller : ℕ) (call : Call) (reply : Reply) (old new : Serial) : Type 0 where
  pub before : Trace
  pub after : Trace
  pub of_caller : slice_get old.traces caller ≡ Some before
  pub number : before.caller ≡ caller
  pub made : Makes old.book before call reply new.book after
  pub others : new.traces ≡ set old.traces caller after

-- a call of a caller, perhaps with a job that it ends, is refused so
abbrev pub IsRefused : Service → ℕ → Call → Option Job → Serial → CallFault → Type 0
IsRefused service caller call job s fault =
    (before : Trace) × (slice_get s.traces caller ≡ Some before) × IsRefusal service s.book before call job fault

-- The outcome of a caller's ticket is among its entries, once. No other caller's trace changes.
pub record HasSeen (caller number : ℕ) (old new : Serial) : Type 0 where
  pub before : Trace
  pub cell : ℕ
  pub seen : Bool
  pub ending : Ending
  pub of_caller : slice_get old.traces caller ≡ Some before
  pub gave : slice_get before.tickets number ≡ Some (given cell seen)
  pub book_stays : new.book ≡ old.book
  pub others : new.traces ≡ set old.traces caller (with_saw before number cell ending seen)
