use Rattle.std.proofs.Common.{◌≡◌, ◌+◌, ◌≤◌, ◌++◌, ◌∷◌, [], length, length-append, arith, refl, Err, rules}
use Rattle.std.proofs.lemmas.Result.{IfOk-from_err, err_from_is_err_and}
use Rattle.dl_values.proofs.Errors.{on_err}
use Rattle.dl_history.specs.Entries.{calls_of}
use Rattle.dl_loader.proofs.AdditionLemmas.{grows_after}
use Rattle.dl_loader.proofs.TicketsStay.{keeps_after, keeps_self}
use Rattle.dl_workers.specs.Seats.{sent_jobs}
use Rattle.dl_haxl.specs.Inside.StepsSoFar.{answers_of, rounds_of}
use Rattle.dl_haxl.proofs.Faults.{fault_of_same}
use Rattle.dl_haxl.proofs.EvaluationLemmas.{sent_after}
use Rattle.dl_haxl.proofs.Stretches.{leaves_more, leaves_none, leaves_same, rounds_few}
use Rattle.dl_haxl.proofs.steps.take_steps.Goals as goal

pub add-requires : goal.add-requires
add-requires g c =
    let old = c.args.pass.now.trace in
    let new = c.take_step.new.pass.trace in
    let before = sent_jobs c.args.sender.now in
    let next = sent_jobs c.loop-step.sender in
    let after = sent_jobs c.take_step.new.sender in
    let given = c.loop-step.given in
    let n = c.loop-step.number in
    let taken = c.in_ok-taken.taken in
    let more = leaves_more old c.loop-step.pass.trace new before next after c.loop-step.yielded c.in-Some.step n given.answers.items (answers_of n taken)
    given.rounds (rounds_of taken) c.loop-step.invariant.number c.loop-step.invariant.leaves (c.in_ok-taken.ensures.step n) in
    let few : given.rounds + rounds_of taken ≤ length (calls_of new.entries) =
    rounds_few old new before after (c.loop-step.yielded ++ c.in-Some.step ∷ []) (given.answers.items ++ answers_of n taken)
    (given.rounds + rounds_of taken) more in
    omega (arith, few, c.calls-calls.ensures)

pub returns-in_err-add-clause-sent : goal.returns-in_err-add-clause-sent
returns-in_err-add-clause-sent g c =
    let before = sent_jobs c.args.sender.now in
    let next = sent_jobs c.loop-step.sender in
    let after = sent_jobs c.take_step.new.sender in
    let so_far = c.loop-step.invariant.leaves in
    let one = c.in_ok-taken.ensures.step c.loop-step.number in
    on_err c.from_residual-in_err-add.result (sent_after before next after (so_far.0, so_far.1) (one.0, one.1))

pub returns-in_err-add-clause-grows : goal.returns-in_err-add-clause-grows
returns-in_err-add-clause-grows g c =
    let old = c.args.pass.now.trace in
    let now = c.loop-step.pass.trace in
    let new = c.take_step.new.pass.trace in
    let so_far = c.loop-step.invariant.leaves.2 in
    let one = (c.in_ok-taken.ensures.step c.loop-step.number).2 in
    on_err c.from_residual-in_err-add.result (grows_after old now new (so_far.0, so_far.1, so_far.2) (one.0, one.1, one.2))

pub loop-step-init : goal.loop-step-init
loop-step-init g c =
    let p = c.args.pass.now.trace in
    let sent = sent_jobs c.args.sender.now in
    record {
      seat = c.requires.seat;
      number = refl;
      older = keeps_self p;
      leaves = leaves_same p p sent sent [] [] c.new.result.items 0 0 c.new.ensures.items refl (leaves_none p sent);
    }

pub loop-step-preserved : goal.loop-step-preserved
loop-step-preserved g c =
    let old = c.args.pass.now.trace in
    let new = c.take_step.new.pass.trace in
    let before = sent_jobs c.args.sender.now in
    let next = sent_jobs c.loop-step.sender in
    let after = sent_jobs c.take_step.new.sender in
    let given = c.loop-step.given in
    let n = c.loop-step.number in
    let taken = c.in_ok-taken.taken in
    let steps = c.loop-step.yielded ++ c.in-Some.step ∷ [] in
    let more = leaves_more old c.loop-step.pass.trace new before next after c.loop-step.yielded c.in-Some.step n given.answers.items (answers_of n taken)
    given.rounds (rounds_of taken) c.loop-step.invariant.number c.loop-step.invariant.leaves (c.in_ok-taken.ensures.step n) in
    record {
      seat = c.in_ok-taken.ensures.seat;
      number = omega (arith, c.loop-step.invariant.number, length-append c.loop-step.yielded (c.in-Some.step ∷ []));
      older = keeps_after old c.loop-step.pass.trace new c.loop-step.invariant.older c.take_step.ensures.older;
      leaves = leaves_same old new before after steps (given.answers.items ++ answers_of n taken) c.add.new.given.answers.items
          (given.rounds + rounds_of taken) c.add.new.given.rounds c.in_ok-add.ensures.answers c.in_ok-add.ensures.rounds more;
    }

-- ---- a step that wasn't taken

pub returns-in_err-taken-clause-follows : goal.returns-in_err-taken-clause-follows
returns-in_err-taken-clause-follows g c = IfOk-from_err _ _ c.from_residual.ensures.0

pub returns-in_err-taken-clause-sent : goal.returns-in_err-taken-clause-sent
returns-in_err-taken-clause-sent g c =
    let so_far = c.loop-step.invariant.leaves in
    let sent = c.in_err-taken.ensures.sent in
    on_err c.from_residual.result
    (sent_after (sent_jobs c.args.sender.now) (sent_jobs c.loop-step.sender) (sent_jobs c.take_step.new.sender) (so_far.0, so_far.1) sent)

pub returns-in_err-taken-clause-older : goal.returns-in_err-taken-clause-older
returns-in_err-taken-clause-older g c =
    keeps_after c.args.pass.now.trace c.loop-step.pass.trace c.take_step.new.pass.trace c.loop-step.invariant.older c.take_step.ensures.older

pub returns-in_err-taken-clause-fault : goal.returns-in_err-taken-clause-fault
returns-in_err-taken-clause-fault g c =
    let same : c.from_residual.result ≡ Err c.in_err-taken.field-0.0 = search rules in
    rw same (fault_of_same g.L.LoaderName.service c.loop-step.pass.trace.caller c.args.pass.now.trace.caller c.take_step.new.pass.flags c.in_err-taken.field-0.0
    c.loop-step.invariant.leaves.2.0 c.in_err-taken.ensures.fault)

pub returns-in_err-taken-clause-grows : goal.returns-in_err-taken-clause-grows
returns-in_err-taken-clause-grows g c =
    let so_far = c.loop-step.invariant.leaves.2 in
    on_err c.from_residual.result
    (grows_after c.args.pass.now.trace c.loop-step.pass.trace c.take_step.new.pass.trace (so_far.0, so_far.1, so_far.2) c.in_err-taken.ensures.grows)

-- ---- an answer that wasn't added

pub returns-in_err-add-clause-follows : goal.returns-in_err-add-clause-follows
returns-in_err-add-clause-follows g c = IfOk-from_err _ _ c.from_residual-in_err-add.ensures.0

pub returns-in_err-add-clause-older : goal.returns-in_err-add-clause-older
returns-in_err-add-clause-older g c =
    keeps_after c.args.pass.now.trace c.loop-step.pass.trace c.take_step.new.pass.trace c.loop-step.invariant.older c.take_step.ensures.older

pub returns-in_err-add-clause-fault : goal.returns-in_err-add-clause-fault
returns-in_err-add-clause-fault g c =
    let p = err_from_is_err_and c.from_residual-in_err-add.result c.from_residual-in_err-add.ensures.1 in
    rw (p.1, p.2) tt
