-- The calls of a loader as C makes them: what each answers, and what it leaves.
use Rattle.std.specs.Prelude.{◌≡◌, ℕ, ◌<◌, ◌≤◌, ◌⊎◌, length, Option, None, true, IfSome, slice_get}
use Rattle.dl_values.specs.Key.{Key}
use Rattle.dl_values.specs.KeyTexts.{IsKeyText}
use Rattle.dl_values.specs.declared.job.Job.{Job}
use Rattle.dl_desk.specs.Events.{atoms}
use Rattle.dl_desk.specs.Legal.{reply_to}
use Rattle.dl_desk.specs.Service.{Service}
use Rattle.dl_desk.specs.declared.event.Call.{Call}
use Rattle.dl_desk.specs.declared.event.Call.TheVariants.{Load, Prime, Clear}
use Rattle.dl_desk.specs.declared.event.Reply.{Reply}
use Rattle.dl_desk.specs.declared.event.Reply.TheVariants.{Loaded, Done}
use Rattle.dl_desk.specs.declared.reply.LoadReply.{LoadReply}
use Rattle.dl_history.specs.History.{past}
use Rattle.dl_history.specs.declared.fault.CallFault.{CallFault}
use Rattle.dl_loader.specs.EventReplies.{reply_by}
use Rattle.dl_loader.specs.SerialLoader.{Serial, IsMade, IsRefused, HasSeen, book_if, serial}
use Rattle.dl_loader.specs.declared.reply.PrimeReply.{PrimeReply}
use Rattle.dl_c_values.specs.declared.codes.TheConstants.{DONE, FRESH, NONE, NO_CALLER, NO_TICKET, OUT_OF_MEMORY}
use Rattle.dl_c_values.specs.declared.answers.Loaded as loaded
use Rattle.dl_loader_c.specs.declared.answers.LoadTicket.{LoadTicket}
use Rattle.dl_loader_c.specs.Answers.{ticket_as, no_ticket, primed_as}
use Rattle.dl_c_values.specs.Answers.{refused_as}
use Rattle.dl_loader_c.specs.Codes.{call_code}
use Rattle.dl_loader.specs.HostSource.{mark}
use Rattle.dl_c_values.specs.Keys.{IsKeyFault}

-- A call of a caller is made, and answered as the history so far says.
pub record Makes (service : Service) (caller : ℕ) (call : Call) (reply : Reply) (old new : Serial) : Type 0 where
  pub told : reply ≡ reply_to service.rules (atoms (past old.book.history)) call
  pub made : IsMade caller call reply old new

-- ---- refusals

-- there is no such caller
abbrev pub IsNoCaller : ℕ → Serial → ℕ → Type 0
IsNoCaller caller s code = (code ≡ NO_CALLER) × (length s.traces ≤ caller)

-- why a call isn't made: there is no such caller, or the loader refuses the call so
abbrev pub IsCallFault : Service → ℕ → Call → Option Job → Serial → ℕ → Type 0
IsCallFault service caller call job s code =
    IsNoCaller caller s code ⊎ ((fault : CallFault) × (code ≡ call_code fault) × IsRefused service caller call job s fault)

-- the same of a call on the key of two texts, which may be none
abbrev pub IsKeyedFault : Service → ℕ → Key → Call → Serial → ℕ → Type 0
IsKeyedFault service caller k call s code = IsKeyFault k code ⊎ (IsKeyText k × IsCallFault service caller call None s code)

-- ---- calls on keys

-- so many tickets has the caller
abbrev pub HasTickets : ℕ → ℕ → Serial → Type 0
HasTickets n caller s = IfSome (slice_get s.traces caller) (λ p. n ≡ length p.tickets)

-- a load was made, and its answer has its reply and its ticket
abbrev pub LoadsAs : Service → ℕ → Key → LoadTicket → Serial → Serial → Type 0
LoadsAs service caller k answer old new =
    (reply : LoadReply) × (number : ℕ) × (answer ≡ ticket_as number reply) × HasTickets number caller old
    × Makes service caller (Load k) (Loaded reply) old new

-- the answer to a load of the key
pub record AnswersLoad (service : Service) (caller : ℕ) (k : Key) (answer : LoadTicket) (old new : Serial) : Type 0 where
  pub made : answer.code ≤ FRESH → IsKeyText k × LoadsAs service caller k answer old new
  pub refused : FRESH < answer.code → (answer ≡ no_ticket answer.code) × (new ≡ old) × IsKeyedFault service caller k (Load k) old answer.code

-- a prime was made, and its answer has its reply
abbrev pub PrimesAs : Service → ℕ → Key → loaded.Loaded → Serial → Serial → Type 0
PrimesAs service caller k answer old new =
    (reply : PrimeReply) × (answer ≡ primed_as reply) × Makes service caller (Prime k mark) (reply_by reply) old new

-- the answer to a prime of the key
pub record AnswersPrime (service : Service) (caller : ℕ) (k : Key) (answer : loaded.Loaded) (old new : Serial) : Type 0 where
  pub made : answer.code ≤ FRESH → IsKeyText k × PrimesAs service caller k answer old new
  pub refused : FRESH < answer.code → (answer ≡ refused_as answer.code) × (new ≡ old) × IsKeyedFault service caller k (Prime k mark) old answer.code

-- the answer to a clear of the key
pub record AnswersClear (service : Service) (caller : ℕ) (k : Key) (code : ℕ) (old new : Serial) : Type 0 where
  pub made : code ≡ DONE → IsKeyText k × Makes service caller (Clear k) Done old new
  pub refused : DONE < code → (new ≡ old) × IsKeyedFault service caller k (Clear k) old code

-- the answer to a call that has no answer but its code
pub record AnswersCall (service : Service) (caller : ℕ) (call : Call) (code : ℕ) (old new : Serial) : Type 0 where
  pub made : code ≡ DONE → Makes service caller call Done old new
  pub refused : DONE < code → (new ≡ old) × IsCallFault service caller call None old code

-- ---- calls that are no events

-- why the outcome of a ticket isn't noted: there is no such caller or no such ticket, or memory is short
abbrev pub IsSawFault : ℕ → ℕ → Serial → ℕ → Type 0
IsSawFault caller number s code = IsNoCaller caller s code
    ⊎ (((code ≡ NO_TICKET) × IfSome (slice_get s.traces caller) (λ p. length p.tickets ≤ number)) ⊎ (code ≡ OUT_OF_MEMORY))

-- the answer to a note that a caller saw the outcome of a ticket
pub record AnswersSaw (caller number code : ℕ) (old new : Serial) : Type 0 where
  pub seen : code ≡ DONE → HasSeen caller number old new
  pub none : code ≡ NONE → new ≡ old
  pub refused : NONE < code → (new ≡ old) × IsSawFault caller number old code

-- the answer to a stop
pub record AnswersStop (code : ℕ) (old new : Serial) : Type 0 where
  pub done : code ≡ DONE
  pub stopped : new ≡ serial (book_if true old.book) old.traces
