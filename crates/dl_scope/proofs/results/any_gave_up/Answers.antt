use Rattle.std.proofs.Common.{sym, subst, refl, take, length, arith}
use Rattle.std.proofs.lemmas.List.{take_all}
use Rattle.std.proofs.lemmas.List.Elements.{All-more, All-same}
use Rattle.std.proofs.lemmas.Option.{slice_get_read}
use Rattle.dl_scope.specs.Inside.Results.{IsDone}
use Rattle.dl_scope.proofs.PlanFaults.{gave_up_at}
use Rattle.dl_scope.proofs.results.any_gave_up.Goals as goal

pub returns-in-GaveUp : goal.returns-in-GaveUp
returns-in-GaveUp g c =
    let workers = c.args.workers.now in
    let n = c.loop-run.run-index in
    let run = c.run-item.result in
    gave_up_at workers n run c.in-GaveUp.batch (slice_get_read workers (length workers) n run refl c.loop-run-test.true c.run-item.is) c.in-GaveUp.is

pub loop-run-preserved : goal.loop-run-preserved
loop-run-preserved g c =
    All-more IsDone c.args.workers.now c.loop-run.run-index c.run-item.result c.loop-run-test.true c.loop-run.invariant
    (subst IsDone c.run-item.is (c.in_default.field-0, c.in_default.is))

pub returns : goal.returns
returns g c =
    let workers = c.args.workers.now in
    All-same IsDone workers (take c.loop-run.run-index workers) (sym (take_all c.loop-run.run-index workers (omega arith))) c.loop-run.invariant
