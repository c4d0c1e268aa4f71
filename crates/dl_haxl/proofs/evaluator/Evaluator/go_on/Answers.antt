use Rattle.std.proofs.Common.{◌≡◌, ◌∙◌, ap, sym, subst, ◌+◌, ℕ, List, ◌++◌, arith, rules, Err}
use Rattle.std.proofs.lemmas.Result.{IfOk-from_err}
use Rattle.dl_history.specs.Entries.{Entry}
use Rattle.dl_values.proofs.Errors.{on_err}
use Rattle.dl_values.specs.declared.job.Job.{Job}
use Rattle.dl_loader.proofs.AdditionLemmas.{grows_after}
use Rattle.dl_loader.proofs.TicketsStay.{keeps_after}
use Rattle.dl_haxl.specs.Pairs.{all_show, outcomes_shown, paired}
use Rattle.dl_haxl.specs.Run.{Finishes, asked_by, wanted_by}
use Rattle.dl_haxl.specs.RunView.{seen}
use Rattle.dl_haxl.specs.Rounds.{AddsAndSends, Evaluates, Round, Rounds}
use Rattle.dl_haxl.proofs.Faults.{fault_of_same}
use Rattle.dl_haxl.proofs.EvaluationLemmas.{learned_now, rounds_next, rounds_within, run_ends, sent_after, wants_now, with_supplied}
use Rattle.dl_haxl.proofs.evaluator.Evaluator.go_on.Goals as goal

pub returns-in-Ready-Ok-clause-evaluates : goal.returns-in-Ready-Ok-clause-evaluates
returns-in-Ready-Ok-clause-evaluates g c = λ t is.
    let old = c.args.pass.now.trace in
    let first = g.O.Outlet.sent_by c.args.seat.now in
    let next = g.O.Outlet.sent_by c.loop.seat in
    let kept = c.loop.invariant in
    let given : Finishes (seen c.loop.run) (seen c.advance.new.self) c.in-Ready-Ok.answer = rw c.in-Ready-Ok.field-0-is at c.in-Ready-Ok.ensures.answer in
    let ends : List Job → List Job → List Entry → Type 0 = g.O.Outlet.jobs_end old.caller in
    let evaluated = run_ends ends old.caller t c.loop.rounds old c.loop.pass.trace first next (seen c.loop.run) (seen c.advance.new.self)
    c.in-Ready-Ok.answer (kept.stretch t is) kept.shown c.in-Ready-Ok.ensures.tickets given (kept.run t is) in
    subst (λ a. AddsAndSends old c.loop.pass.trace first next (λ lines sent. Evaluates ends old.caller t lines a c.loop.rounds sent))
    (sym c.in-Ready-Ok.answer-is) evaluated

pub returns-in-Ready-Ok-clause-rounds : goal.returns-in-Ready-Ok-clause-rounds
returns-in-Ready-Ok-clause-rounds g c = λ t is.
    let caller = c.args.pass.now.trace.caller in
    let stretch = c.loop.invariant.stretch t is in
    rounds_within (g.O.Outlet.jobs_end caller) caller t c.gives_by_depth.ensures c.loop.rounds stretch.2.1
    (with_supplied (seen c.loop.run)) stretch.0 stretch.2.3

pub returns-in_err-tickets-clause-sent : goal.returns-in_err-tickets-clause-sent
returns-in_err-tickets-clause-sent g c =
    sent_after (g.O.Outlet.sent_by c.args.seat.now) (g.O.Outlet.sent_by c.loop.seat) (g.O.Outlet.sent_by c.round.new.seat)
    c.loop.invariant.sent c.round.ensures.sent

pub returns-in_err-tickets-clause-grows : goal.returns-in_err-tickets-clause-grows
returns-in_err-tickets-clause-grows g c =
    on_err c.from_residual.result
    (grows_after c.args.pass.now.trace c.loop.pass.trace c.round.new.pass.trace c.loop.invariant.grows c.in_err-tickets.ensures.grows)

pub returns-in_err-tickets-clause-older : goal.returns-in_err-tickets-clause-older
returns-in_err-tickets-clause-older g c =
    keeps_after c.args.pass.now.trace c.loop.pass.trace c.round.new.pass.trace c.loop.invariant.older c.round.ensures.older

pub returns-in_err-tickets-clause-fault : goal.returns-in_err-tickets-clause-fault
returns-in_err-tickets-clause-fault g c =
    let same : c.from_residual.result ≡ Err c.in_err-tickets.field-0.0 = search rules in
    rw same (fault_of_same g.L.LoaderName.service c.loop.pass.trace.caller c.args.pass.now.trace.caller c.round.new.pass.flags c.in_err-tickets.field-0.0
    c.loop.invariant.grows.0 c.in_err-tickets.ensures.fault)

pub loop-preserved : goal.loop-preserved
loop-preserved g c =
    let old = c.args.pass.now.trace in
    let now = c.loop.pass.trace in
    let new = c.round.new.pass.trace in
    let first = g.O.Outlet.sent_by c.args.seat.now in
    let sent_before = g.O.Outlet.sent_by c.loop.seat in
    let sent_now = g.O.Outlet.sent_by c.round.new.seat in
    let caller = old.caller in
    let n = c.loop.rounds in
    let ends : ℕ → List Job → List Job → List Entry → Type 0 = g.O.Outlet.jobs_end in
    let kept = c.loop.invariant in
    let before = seen c.loop.run in
    let after = seen c.advance.new.self in
    let last = seen c.supply.new.self in
    let wants = wants_now before after kept.shown c.in-Pending.ensures.tickets c.in-Pending.ensures.waits in
    let learned = learned_now before after kept.shown c.in-Pending.ensures.tickets wants.learns in
    let outcomes = outcomes_shown c.in_ok-tickets.tickets.items in
    let made = subst (λ ks. AddsAndSends now new sent_before sent_now (λ lines sent. Round (ends now.caller) now.caller ks lines outcomes sent))
    c.wanted.ensures c.in_ok-tickets.ensures.round in
    let round = subst (λ who. AddsAndSends now new sent_before sent_now (λ lines sent. Round (ends who) who (wanted_by after) lines outcomes sent))
    kept.grows.0 made in
    let supplied : with_supplied last ≡ after.learned ++ paired (wanted_by after) outcomes =
    ap (λ ps. ps ++ paired (asked_by last) (outcomes_shown last.tickets)) c.supply.ensures.learned
    ∙ (ap (λ ks. after.learned ++ paired ks (outcomes_shown last.tickets)) (c.supply.ensures.asked wants.some)
    ∙ ap (λ ts. after.learned ++ paired (wanted_by after) (outcomes_shown ts)) (c.supply.ensures.tickets wants.some)) in
    let low = kept.front in
    let high = c.in_ok-tickets.ensures.front in
    record {
      can_next = tt;
      is_finite = tt;
      fits = c.round.ensures.fits;
      run = λ t is. c.supply.ensures.run t (c.in-Pending.ensures.waits.run t (kept.run t is));
      shown = ap all_show (c.supply.ensures.tickets wants.some) ∙ c.in_ok-tickets.ensures.shown;
      stretch = λ t is.
          let start = subst (λ ps. AddsAndSends old now first sent_before (λ lines sent. Rounds (ends caller) caller t n lines ps sent))
          (sym learned) (kept.stretch t is) in
          let next = rounds_next (ends caller) caller t n old now new first sent_before sent_now after.learned (wanted_by after) outcomes start round
          (wants.all t (kept.run t is)) wants.some in
          subst (λ ps. AddsAndSends old new first sent_now (λ lines sent. Rounds (ends caller) caller t (n + 1) lines ps sent)) (sym supplied) next;
      sent = sent_after first sent_before sent_now kept.sent c.round.ensures.sent;
      older = keeps_after old now new kept.older c.round.ensures.older;
      grows = grows_after old now new kept.grows (round.2.0, round.2.1, round.2.2);
      front = omega (arith, low, high);
    }

pub returns-in-Ready-Ok-clause-fits : goal.returns-in-Ready-Ok-clause-fits
returns-in-Ready-Ok-clause-fits g c = c.loop.invariant.fits

pub returns-in-Ready-Ok-clause-sent : goal.returns-in-Ready-Ok-clause-sent
returns-in-Ready-Ok-clause-sent g c = c.loop.invariant.sent

pub returns-in-Ready-Ok-clause-grows : goal.returns-in-Ready-Ok-clause-grows
returns-in-Ready-Ok-clause-grows g c = tt

pub returns-in-Ready-Err : goal.returns-in-Ready-Err
returns-in-Ready-Err g c =
    let kept = c.loop.invariant in
    record { fits = kept.fits; evaluates = tt; rounds = tt; sent = kept.sent; older = kept.older; fault = tt; grows = kept.grows }

pub returns-in_err-tickets-clause-fits : goal.returns-in_err-tickets-clause-fits
returns-in_err-tickets-clause-fits g c = c.round.ensures.fits

pub returns-in_err-tickets-clause-evaluates : goal.returns-in_err-tickets-clause-evaluates
returns-in_err-tickets-clause-evaluates g c = IfOk-from_err _ _ c.from_residual.ensures.0

pub returns-in_err-tickets-clause-rounds : goal.returns-in_err-tickets-clause-rounds
returns-in_err-tickets-clause-rounds g c = IfOk-from_err _ _ c.from_residual.ensures.0

pub loop-init : goal.loop-init
loop-init g c = search rules
