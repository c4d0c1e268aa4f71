-- What is known outside the lock of a call that was made under it.
use Rattle.std.proofs.Common.{◌≡◌, subst, [], ◌∷◌, ◌++◌, List}
use Rattle.dl_desk.specs.Events.{atoms}
use Rattle.dl_desk.specs.Service.{Service}
use Rattle.dl_desk.specs.Legal.{reply_to}
use Rattle.dl_history.specs.History.{past, IsLegal}
use Rattle.dl_history.specs.Pass.{Trace}
use Rattle.dl_loader.specs.Book.{Book, Keeps}
use Rattle.dl_loader.specs.EventEffect.{event_of, Makes}
use Rattle.dl_desk.specs.declared.event.Event.{Event}
use Rattle.dl_desk.specs.declared.event.Call.{Call}
use Rattle.dl_desk.specs.declared.event.Reply.{Reply}
use Rattle.dl_history.proofs.Pasts.{legal_at}

-- the reply is the one that the history gives
pub replied : (s : Service) (b now : Book) (p new : Trace) (call : Call) (r : Reply) → Keeps s now → Makes b p call r now new
    → r ≡ reply_to s.rules (atoms (past b.history)) call
replied s b now p new call r kept made =
    let legal : IsLegal s (b.history ++ event_of p call r ∷ []) = subst (λ (es : List Event). IsLegal s es) made.history kept.legal in
    (legal_at s b.history [] (event_of p call r) legal).reply
