use Rattle.std.specs.Prelude.{◌≤◌, ℕ, IfOk, Ok, Err, Result}
use Rattle.std.proofs.Common.{List, [], append-nil, refl, sym}
use Rattle.std.proofs.lemmas.Result.{IfOk-from_err, err_from_is_err_and}
use Rattle.dl_history.specs.Entries.{Entry}
use Rattle.dl_loader.proofs.TicketsStay.{keeps_self}
use Rattle.dl_values.proofs.Errors.{on_err}
use Rattle.dl_values.specs.declared.job.Job.{Job}
use Rattle.dl_terms.specs.Tree.{Tree, depth_of}
use Rattle.dl_terms.specs.View.{term_view}
use Rattle.dl_terms.specs.declared.answer.Answer.{Answer}
use Rattle.dl_haxl.specs.Rounds.{AddsAndSends, Evaluates}
use Rattle.dl_haxl.specs.Run.{IsRunOf, Run}
use Rattle.dl_haxl.specs.RunView.{seen}
use Rattle.dl_haxl.specs.declared.fault.RunFault.{RunFault}
use Rattle.dl_haxl.proofs.RoundSteps.{none_sent}
use Rattle.dl_haxl.proofs.evaluator.Evaluator.evaluate.Goals as goal

-- what holds of each term that a run is of holds of its own
of_own : (P : (Answer × ℕ) → Tree → Type 0) (r : Result (Answer × ℕ) RunFault) (t : Tree) (run : Run) → IsRunOf t run
    → IfOk r (λ x. (u : Tree) → IsRunOf u run → P x u) → IfOk r (λ x. P x t)
of_own P (Ok x) t run is each = each t is
of_own P (Err fault) t run is each = tt

pub returns-in_err-run : goal.returns-in_err-run
returns-in_err-run g c =
    let err = c.from_residual.ensures.0 in
    record {
      fits = c.requires.fits;
      evaluates = IfOk-from_err _ _ err;
      rounds = IfOk-from_err _ _ err;
      sent = none_sent (g.O.Outlet.sent_by c.args.seat.now);
      older = keeps_self c.args.pass.now.trace;
      fault = (let p = err_from_is_err_and c.from_residual.result c.from_residual.ensures.1 in rw (p.1, p.2) tt);
      grows = on_err c.from_residual.result (refl, [], sym (append-nil c.args.pass.now.trace.entries));
    }

pub go_on-requires : goal.go_on-requires
go_on-requires g c =
    let run = c.in_ok-run.ensures in
    record { fits = c.requires.fits; nothing_learned = run.learned; nothing_asked = run.asked; no_tickets = run.tickets }

pub returns : goal.returns
returns g c =
    let r = c.go_on.result in
    let t = term_view c.args.term in
    let run = seen c.in_ok-run.run' in
    let old = c.args.pass.now.trace in
    let new = c.go_on.new.pass.trace in
    let first = g.O.Outlet.sent_by c.args.seat.now in
    let last = g.O.Outlet.sent_by c.go_on.new.seat in
    let ends : List Job → List Job → List Entry → Type 0 = g.O.Outlet.jobs_end old.caller in
    record {
      fits = c.go_on.ensures.fits;
      evaluates = of_own (λ x u. AddsAndSends old new first last (λ lines sent. Evaluates ends old.caller u lines x.0 x.1 sent)) r t run
          c.in_ok-run.ensures.run c.go_on.ensures.evaluates;
      rounds = of_own (λ x u. x.1 ≤ depth_of u) r t run c.in_ok-run.ensures.run c.go_on.ensures.rounds;
      sent = c.go_on.ensures.sent;
      older = c.go_on.ensures.older;
      fault = c.go_on.ensures.fault;
      grows = c.go_on.ensures.grows;
    }
