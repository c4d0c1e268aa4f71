use Rattle.std.proofs.Common.{◌≡◌, ◌∙◌, [], ap, append-nil, refl, subst, sym, Err, None, rules}
use Rattle.std.proofs.lemmas.Result.{IfOk-from_err, err_from_is_err_and}
use Rattle.dl_values.proofs.Errors.{on_err}
use Rattle.dl_desk.specs.declared.event.Call.TheVariants as call
use Rattle.dl_desk.specs.declared.event.Reply.TheVariants.{Done}
use Rattle.dl_terms.specs.declared.plan.Step.TheVariants.{Prime, Clear, ClearAll}
use Rattle.dl_loader.specs.Additions.{Grows}
use Rattle.dl_loader.proofs.TicketsStay.{keeps_same}
use Rattle.dl_loader.specs.Pass.{Pass, Trace}
use Rattle.dl_workers.specs.Seats.{sent_jobs}
use Rattle.dl_haxl.proofs.RoundSteps.{none_sent}
use Rattle.dl_haxl.proofs.Stretches.{call_step, made_step}
use Rattle.dl_haxl.proofs.steps.Evaluator+L+JobQueue.take_step.Goals as goal
use Rattle.dl_haxl.proofs.steps.Evaluator+L+JobQueue.take_step.Goals.{in-Prime+in_ok-prime-in-Prime, in-Clear+in_ok-clear-in-Clear}
use Rattle.dl_haxl.proofs.steps.Evaluator+L+JobQueue.take_step.Goals.{in-ClearAll+in_ok-clear_all-in-ClearAll}

-- the entries that a term's evaluation added, and the jobs that it sent, are those of the step
pub returns-in-Eval-clause-step : goal.returns-in-Eval-clause-step
returns-in-Eval-clause-step g c =
    let given = c.in_ok-given-in-Eval.given in
    let made = c.in_ok-given-in-Eval.ensures.evaluates in
    let adds = made.2 in
    rw c.in-Eval.is (λ number. (made.0, made.1, (adds.0, adds.1, adds.2, (given.0, refl, adds.3))))

-- the entry of a call is that of the step
pub returns-clause-step : goal.returns-clause-step
returns-clause-step g c = λ number.
    let old = c.args.pass.now.trace in
    let sent = sent_jobs c.args.sender.now in
    let now = c.match-step.pass.trace in
    elim c.match-step.branch [
      | in-Prime+in_ok-prime-in-Prime w ↦ call_step old w.prime.new.pass.trace now sent number c.args.step (Prime w.in-Prime.key w.in-Prime.outcome)
          (call.Prime w.in-Prime.key w.in-Prime.outcome) w.in-Prime.is (ap (λ (p : Pass). p.trace) w.pass-is) (λ s is. is)
          w.in_ok-prime-in-Prime.ensures.primed
      | in-Clear+in_ok-clear-in-Clear w ↦ made_step g.L.LoaderName.service old w.clear.new.pass.trace now sent number c.args.step (Clear w.in-Clear.key)
          (call.Clear w.in-Clear.key) Done w.in-Clear.is (ap (λ (p : Pass). p.trace) w.pass-is) (λ s is. is) w.in_ok-clear-in-Clear.ensures.made
      | in-ClearAll+in_ok-clear_all-in-ClearAll w ↦ made_step g.L.LoaderName.service old w.clear_all.new.pass.trace now sent number c.args.step ClearAll
          call.ClearAll Done w.in-ClearAll.is (ap (λ (p : Pass). p.trace) w.pass-is) (λ s is. is) w.in_ok-clear_all-in-ClearAll.ensures.made
    ]

-- ---- a call that was refused: nothing was sent, and the tickets stay

pub returns-in_err-prime-in-Prime-clause-step : goal.returns-in_err-prime-in-Prime-clause-step
returns-in_err-prime-in-Prime-clause-step g c = IfOk-from_err _ _ c.from_residual.ensures.0

pub returns-in_err-prime-in-Prime-clause-sent : goal.returns-in_err-prime-in-Prime-clause-sent
returns-in_err-prime-in-Prime-clause-sent g c = on_err c.from_residual.result (none_sent (sent_jobs c.args.sender.now))

pub returns-in_err-prime-in-Prime-clause-older : goal.returns-in_err-prime-in-Prime-clause-older
returns-in_err-prime-in-Prime-clause-older g c = keeps_same c.args.pass.now.trace c.prime.new.pass.trace c.prime.ensures.tickets

pub returns-in_err-prime-in-Prime-clause-grows : goal.returns-in_err-prime-in-Prime-clause-grows
returns-in_err-prime-in-Prime-clause-grows g c = on_err c.from_residual.result c.in_err-prime-in-Prime.ensures.grows

pub returns-in_err-clear-in-Clear-clause-step : goal.returns-in_err-clear-in-Clear-clause-step
returns-in_err-clear-in-Clear-clause-step g c = IfOk-from_err _ _ c.from_residual-in_err-clear-in-Clear.ensures.0

pub returns-in_err-clear-in-Clear-clause-sent : goal.returns-in_err-clear-in-Clear-clause-sent
returns-in_err-clear-in-Clear-clause-sent g c = on_err c.from_residual-in_err-clear-in-Clear.result (none_sent (sent_jobs c.args.sender.now))

pub returns-in_err-clear-in-Clear-clause-older : goal.returns-in_err-clear-in-Clear-clause-older
returns-in_err-clear-in-Clear-clause-older g c =
    keeps_same c.args.pass.now.trace c.clear.new.pass.trace (ap (λ (t : Trace). t.tickets) c.in_err-clear-in-Clear.ensures.unchanged)

pub returns-in_err-clear-in-Clear-clause-fault : goal.returns-in_err-clear-in-Clear-clause-fault
returns-in_err-clear-in-Clear-clause-fault g c =
    let p = err_from_is_err_and c.from_residual-in_err-clear-in-Clear.result c.from_residual-in_err-clear-in-Clear.ensures.1 in
    rw (p.1, p.2) (c.args.pass.now.trace, call.Clear c.in-Clear.key, None, refl, c.in_err-clear-in-Clear.ensures.fault, c.in_err-clear-in-Clear.ensures.knows)

pub returns-in_err-clear_all-in-ClearAll-clause-step : goal.returns-in_err-clear_all-in-ClearAll-clause-step
returns-in_err-clear_all-in-ClearAll-clause-step g c = IfOk-from_err _ _ c.from_residual-in_err-clear_all-in-ClearAll.ensures.0

pub returns-in_err-clear_all-in-ClearAll-clause-sent : goal.returns-in_err-clear_all-in-ClearAll-clause-sent
returns-in_err-clear_all-in-ClearAll-clause-sent g c = on_err c.from_residual-in_err-clear_all-in-ClearAll.result (none_sent (sent_jobs c.args.sender.now))

pub returns-in_err-clear_all-in-ClearAll-clause-older : goal.returns-in_err-clear_all-in-ClearAll-clause-older
returns-in_err-clear_all-in-ClearAll-clause-older g c =
    keeps_same c.args.pass.now.trace c.clear_all.new.pass.trace (ap (λ (t : Trace). t.tickets) c.in_err-clear_all-in-ClearAll.ensures.unchanged)

pub returns-in_err-clear_all-in-ClearAll-clause-fault : goal.returns-in_err-clear_all-in-ClearAll-clause-fault
returns-in_err-clear_all-in-ClearAll-clause-fault g c =
    let p = err_from_is_err_and c.from_residual-in_err-clear_all-in-ClearAll.result c.from_residual-in_err-clear_all-in-ClearAll.ensures.1 in
    rw (p.1, p.2) (c.args.pass.now.trace, call.ClearAll, None, refl, c.in_err-clear_all-in-ClearAll.ensures.fault, c.in_err-clear_all-in-ClearAll.ensures.knows)

pub returns-in_err-prime-in-Prime-clause-fault : goal.returns-in_err-prime-in-Prime-clause-fault
returns-in_err-prime-in-Prime-clause-fault g c =
    let same : c.from_residual.result ≡ Err c.in_err-prime-in-Prime.field-0.0 = search rules in
    rw same c.in_err-prime-in-Prime.ensures.fault

pub returns-in_err-clear-in-Clear-clause-grows : goal.returns-in_err-clear-in-Clear-clause-grows
returns-in_err-clear-in-Clear-clause-grows g c =
    let old = c.args.pass.now.trace in
    on_err c.from_residual-in_err-clear-in-Clear.result
    (subst (Grows old) (sym c.in_err-clear-in-Clear.ensures.unchanged) (refl, [], sym (append-nil old.entries)))

pub returns-in_err-clear_all-in-ClearAll-clause-grows : goal.returns-in_err-clear_all-in-ClearAll-clause-grows
returns-in_err-clear_all-in-ClearAll-clause-grows g c =
    let old = c.args.pass.now.trace in
    on_err c.from_residual-in_err-clear_all-in-ClearAll.result
    (subst (Grows old) (sym c.in_err-clear_all-in-ClearAll.ensures.unchanged) (refl, [], sym (append-nil old.entries)))

-- ---- an evaluation that failed

pub returns-in_err-given-in-Eval-clause-step : goal.returns-in_err-given-in-Eval-clause-step
returns-in_err-given-in-Eval-clause-step g c = IfOk-from_err _ _ c.from_residual-in_err-given-in-Eval.ensures.0

pub returns-in_err-given-in-Eval-clause-sent : goal.returns-in_err-given-in-Eval-clause-sent
returns-in_err-given-in-Eval-clause-sent g c = on_err c.from_residual-in_err-given-in-Eval.result c.evaluate.ensures.sent

pub returns-in_err-given-in-Eval-clause-older : goal.returns-in_err-given-in-Eval-clause-older
returns-in_err-given-in-Eval-clause-older g c = c.evaluate.ensures.older

pub returns-in_err-given-in-Eval-clause-grows : goal.returns-in_err-given-in-Eval-clause-grows
returns-in_err-given-in-Eval-clause-grows g c = on_err c.from_residual-in_err-given-in-Eval.result c.in_err-given-in-Eval.ensures.grows

pub returns-in_err-given-in-Eval-clause-fault : goal.returns-in_err-given-in-Eval-clause-fault
returns-in_err-given-in-Eval-clause-fault g c =
    let same : c.from_residual-in_err-given-in-Eval.result ≡ Err c.in_err-given-in-Eval.field-0.0 = search rules in
    rw same c.in_err-given-in-Eval.ensures.fault

-- ---- a step that was taken

pub returns-in-Eval-clause-older : goal.returns-in-Eval-clause-older
returns-in-Eval-clause-older g c = c.evaluate.ensures.older

pub returns-clause-older : goal.returns-clause-older
returns-clause-older g c =
    let old = c.args.pass.now.trace in
    let now = c.match-step.pass.trace in
    elim c.match-step.branch [
      | in-Prime+in_ok-prime-in-Prime w ↦ keeps_same old now (ap (λ (p : Pass). p.trace.tickets) w.pass-is ∙ w.prime.ensures.tickets)
      | in-Clear+in_ok-clear-in-Clear w ↦ keeps_same old now (ap (λ (p : Pass). p.trace.tickets) w.pass-is ∙ w.in_ok-clear-in-Clear.ensures.tickets)
      | in-ClearAll+in_ok-clear_all-in-ClearAll w ↦ keeps_same old now
          (ap (λ (p : Pass). p.trace.tickets) w.pass-is ∙ w.in_ok-clear_all-in-ClearAll.ensures.tickets)
    ]
