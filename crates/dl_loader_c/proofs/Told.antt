-- A call that is made is answered as the history so far says.
use Rattle.std.proofs.Common.{◌≡◌, ◌∙◌, sym, ap, subst, length, ℕ, List, [], ◌∷◌, ◌++◌}
use Rattle.dl_values.specs.declared.job.Job.{Job}
use Rattle.dl_desk.specs.Events.{atoms}
use Rattle.dl_desk.specs.History.{jobs, jobs_from}
use Rattle.dl_desk.specs.Service.{Service}
use Rattle.dl_desk.specs.declared.event.Call.{Call}
use Rattle.dl_desk.specs.declared.event.Call.TheVariants.{Dispatch}
use Rattle.dl_desk.specs.declared.event.Event.{Event}
use Rattle.dl_desk.specs.declared.event.Reply.{Reply}
use Rattle.dl_desk.specs.declared.event.Reply.TheVariants.{Sent}
use Rattle.dl_history.specs.History.{past, IsLegal}
use Rattle.dl_history.proofs.Pasts.{legal_at}
use Rattle.dl_loader.specs.Book.{Keeps}
use Rattle.dl_loader.specs.EventEffect.{event_of}
use Rattle.dl_loader.specs.SerialLoader.{Serial, IsMade}
use Rattle.dl_c_values.specs.Answers.{first_of, sent_as}
use Rattle.dl_loader_c.specs.Calls.{Makes}
use Rattle.dl_c_values.specs.declared.answers.Dispatched.{Dispatched}
use Rattle.dl_c_values.proofs.Rows.{jobs_in_a_row}

pub makes : (s : Service) (caller : ℕ) (call : Call) (reply : Reply) (old new : Serial) → Keeps s new.book → IsMade caller call reply old new
    → Makes s caller call reply old new
makes s caller call reply old new kept made =
    let e : Event = event_of made.before call reply in
    let legal : IsLegal s (old.book.history ++ e ∷ []) = subst (λ (es : List Event). IsLegal s es) made.made.history kept.legal in
    record { told = (legal_at s old.book.history [] e legal).reply; made = made }

-- the jobs of a dispatch are those of batches in a row
pub in_a_row : (s : Service) (caller : ℕ) (js : List Job) (answer : Dispatched) (old new : Serial) → answer ≡ sent_as js
    → Makes s caller Dispatch (Sent js) old new → js ≡ jobs_from (atoms (past old.book.history)) answer.first answer.count
in_a_row s caller js answer old new is made =
    let history = atoms (past old.book.history) in
    let both : ◌≡◌ {A = Reply} (Sent js) (Sent (jobs history)) = made.told in
    let told : js ≡ jobs history = cc in
    told ∙ (jobs_in_a_row history
    ∙ (ap (λ (xs : List Job). jobs_from history (first_of xs) (length xs)) (sym told)
    ∙ ap (λ (a : Dispatched). jobs_from history a.first a.count) (sym is)))
