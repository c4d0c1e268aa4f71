use Rattle.std.proofs.Common.{sym, subst, refl, take, length, arith}
use Rattle.std.proofs.lemmas.List.{take_all}
use Rattle.std.proofs.lemmas.List.Elements.{All-more, All-same}
use Rattle.std.proofs.lemmas.Option.{slice_get_read}
use Rattle.dl_scope.specs.Inside.ThreadResults.{WasTaken}
use Rattle.dl_scope.proofs.PlanFaults.{met_at, taken_at}
use Rattle.dl_scope.proofs.results.any_met.Goals as goal

pub returns-in-Err : goal.returns-in-Err
returns-in-Err g c =
    let plans = c.args.plans.now in
    let n = c.loop-run.run-index in
    let run = c.run-item.result in
    (n, c.in-Err.field-0, met_at plans n run c.in-Err.field-0 (slice_get_read plans (length plans) n run refl c.loop-run-test.true c.run-item.is) c.in-Err.is)

pub loop-run-preserved : goal.loop-run-preserved
loop-run-preserved g c =
    All-more WasTaken c.args.plans.now c.loop-run.run-index c.run-item.result c.loop-run-test.true c.loop-run.invariant
    (subst WasTaken c.run-item.is (taken_at c.run-item.result c.in-Ok.field-0 c.in-Ok.is))

pub returns : goal.returns
returns g c =
    let plans = c.args.plans.now in
    All-same WasTaken plans (take c.loop-run.run-index plans) (sym (take_all c.loop-run.run-index plans (omega arith))) c.loop-run.invariant
