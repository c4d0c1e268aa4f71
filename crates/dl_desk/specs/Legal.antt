-- When a past is legal: each event is a call that may be made, with the reply that the definitions of a data loader of
-- one thread give there.
use Rattle.std.specs.Prelude.{◌≡◌, ℕ, ◌<◌, List, [], ◌∷◌, map}
use Rattle.dl_values.specs.Answering.{Answering, MayAnswer}
use Rattle.dl_values.specs.Key.{Key}
use Rattle.dl_values.specs.Limits.{Rules}
use Rattle.dl_values.specs.declared.outcome.BatchFault.{BatchFault}
use Rattle.dl_values.specs.declared.outcome.BatchFault.TheVariants.{Source, Memory, Unsent}
use Rattle.dl_values.specs.declared.outcome.BatchAnswer.TheVariants as answered
use Rattle.dl_desk.specs.Service.{Service}
use Rattle.dl_desk.specs.History.{Atom, MayEnd, members}
use Rattle.dl_desk.specs.Events.{atoms}
use Rattle.dl_desk.specs.Calls as desk
use Rattle.dl_desk.specs.declared.call.DeskCall.{DeskCall}
use Rattle.dl_desk.specs.declared.call.DeskCall.TheVariants as asked
use Rattle.dl_desk.specs.declared.event.Event.{Event}
use Rattle.dl_desk.specs.declared.event.Call.{Call}
use Rattle.dl_desk.specs.declared.event.Call.TheVariants.{Load, LoadMany, Prime, Clear, ClearAll, Dispatch, Settle, Fail}
use Rattle.dl_desk.specs.declared.event.Reply.{Reply}

-- ---- replies

-- the call as a desk has it, without what it gives to cells
abbrev pub call_of : Call → DeskCall
call_of (Load k) = asked.Load k
call_of (LoadMany ks) = asked.LoadMany ks
call_of (Prime k o) = asked.Prime k
call_of (Clear k) = asked.Clear k
call_of ClearAll = asked.ClearAll
call_of Dispatch = asked.Dispatch
call_of (Settle b os) = asked.Settle b
call_of (Fail b fault) = asked.Fail b

-- the reply to a call after a history
abbrev pub reply_to : Rules → List Atom → Call → Reply
reply_to rules history call = desk.reply_to rules history (call_of call)

-- ---- calls that may be made

-- the keys of a batch's members, in order
abbrev pub keys_of : List Atom → ℕ → List Key
keys_of history b = map (λ m. m.0) (members history b)

-- a batch fails with the text of a break that the source may answer to its keys, or because its caller gives it up
abbrev pub IsFault : Answering → List Key → BatchFault → Type 0
IsFault answer keys (Source text) = MayAnswer answer keys (answered.Break text)
IsFault answer keys Memory = Unit {0}
IsFault answer keys Unsent = Unit {0}

-- A call may be made after a history: an end is of a batch that is sent and has not ended, a settle brings outcomes
-- that the source may answer to the batch's keys, and a fail has such a fault.
abbrev pub MayBeMade : Answering → List Atom → Call → Type 0
MayBeMade answer history (Settle b os) = MayEnd history b × MayAnswer answer (keys_of history b) (answered.Each os)
MayBeMade answer history (Fail b fault) = MayEnd history b × IsFault answer (keys_of history b) fault
MayBeMade answer history call = Unit {0}

-- ---- legal pasts

-- an event after a past: of a caller of the loader, a call that may be made, with the reply that a data loader of one thread gives there
pub record IsNext (service : Service) (before : List Event) (e : Event) : Type 0 where
  pub caller : e.caller < service.callers
  pub reply : e.reply ≡ reply_to service.rules (atoms before) e.call
  pub made : MayBeMade service.answer (atoms before) e.call

-- each event of the past may come after those before it
abbrev pub IsLegal : Service → List Event → Type 0
IsLegal service [] = Unit {0}
IsLegal service (e ∷ before) = IsNext service before e × IsLegal service before
