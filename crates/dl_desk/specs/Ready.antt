-- A call that a desk has prepared.
use Rattle.std.specs.Prelude.{◌≡◌, List, [], ◌∷◌}
use Rattle.dl_values.specs.Limits.{Rules}
use Rattle.dl_desk.specs.History.{Atom, load_replies, prime_reply, jobs}
use Rattle.dl_desk.specs.Calls.{after}
use Rattle.dl_desk.specs.BatchBook.{Desk, StandsFor}
use Rattle.dl_desk.specs.declared.call.DeskCall.{DeskCall}
use Rattle.dl_desk.specs.declared.call.DeskCall.TheVariants.{Load, LoadMany, Prime, Dispatch}
use Rattle.dl_desk.specs.declared.reply.DeskReply.{DeskReply}
use Rattle.dl_desk.specs.declared.reply.DeskReply.TheVariants as reply
use Rattle.dl_desk.specs.declared.ready.Ready.{Ready}

-- the reply is that to the call
abbrev pub IsReplyTo : Rules → List Atom → DeskCall → DeskReply → Type 0
IsReplyTo rules history (Load k) (reply.Loads replies) = replies.items ≡ load_replies rules history (k ∷ [])
IsReplyTo rules history (LoadMany ks) (reply.Loads replies) = replies.items ≡ load_replies rules history ks
IsReplyTo rules history (Prime k) (reply.Primed primed) = primed ≡ prime_reply history k
IsReplyTo rules history Dispatch (reply.Sent sent) = sent.items ≡ jobs history
IsReplyTo rules history call told = ⊥

-- the desk has prepared the call, and the reply is the call's
pub record IsReadyFor (desk : Desk) (call : DeskCall) (ready : Ready) : Type 0 where
  pub stands : (history : List Atom) → StandsFor desk.book history → StandsFor desk.prepared (after desk.book.rules history call)
  pub reply : (history : List Atom) → StandsFor desk.book history → IsReplyTo desk.book.rules history call ready.reply
