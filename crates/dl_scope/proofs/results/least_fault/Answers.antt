use Rattle.std.proofs.Common.{sym, subst, refl, take, length, arith}
use Rattle.std.proofs.lemmas.List.{take_all}
use Rattle.std.proofs.lemmas.List.Elements.{All-more, All-same}
use Rattle.std.proofs.lemmas.Option.{slice_get_read}
use Rattle.dl_scope.specs.Inside.Results.{MetNoOwn}
use Rattle.dl_scope.proofs.PlanFaults.{least_at}
use Rattle.dl_scope.proofs.results.least_fault.Goals as goal

pub returns-in-Some : goal.returns-in-Some
returns-in-Some g c =
    let plans = c.args.plans.now in
    let n = c.loop-plan.plan in
    let run = c.index-plans-plan.result in
    least_at plans n run c.in-Some.fault (slice_get_read plans (length plans) n run refl c.loop-plan-test.true c.index-plans-plan.is)
    c.in-Some.ensures.0 c.in-Some.ensures.1 c.loop-plan.invariant

pub loop-plan-preserved : goal.loop-plan-preserved
loop-plan-preserved g c =
    All-more MetNoOwn c.args.plans.now c.loop-plan.plan c.index-plans-plan.result c.loop-plan-test.true c.loop-plan.invariant
    (subst MetNoOwn c.index-plans-plan.is c.in_default.ensures)

pub returns : goal.returns
returns g c =
    let plans = c.args.plans.now in
    All-same MetNoOwn plans (take c.loop-plan.plan plans) (sym (take_all c.loop-plan.plan plans (omega arith))) c.loop-plan.invariant
