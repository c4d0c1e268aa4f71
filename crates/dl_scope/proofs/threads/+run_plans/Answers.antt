use Rattle.std.proofs.Common.{subst}
use Rattle.std.specs.Prelude.{Some}
use Rattle.std.proofs.lemmas.List.Elements.{All-pop}
use Rattle.dl_workers.specs.Seats.{IsSenderOf}
use Rattle.dl_scope.specs.Inside.ThreadRuns.{IsPlanRun}
use Rattle.dl_scope.specs.declared.threads.tasks.PlanTask.{PlanTask}
use Rattle.dl_scope.proofs.ThreadJoins.{all_joined}
use Rattle.dl_scope.proofs.threads.+run_plans.Goals as goal

pub start_plan-requires-clause-seat : goal.start_plan-requires-clause-seat
start_plan-requires-clause-seat g t c = λ κs live.
    let is_seat : PlanTask g.row.L.Denot → Type 0 = λ task. IsSenderOf c.args.server.now.queue.now task.sender in
    (All-pop is_seat c.args.plans.items c.pop.new.self.items (Some c.in-Some.task) c.in-Some.ensures.items c.requires.plans).1

pub run_plans-rest-requires-clause-plans : goal.run_plans-rest-requires-clause-plans
run_plans-rest-requires-clause-plans g t c = λ κs live.
    let is_seat : PlanTask g.row.L.Denot → Type 0 = λ task. IsSenderOf c.args.server.now.queue.now task.sender in
    (All-pop is_seat c.args.plans.items c.pop.new.self.items (Some c.in-Some.task) c.in-Some.ensures.items c.requires.plans).0

-- with the task back at the end of the list that it was taken from
pub returns : goal.returns
returns g t c =
    let queue = c.args.server.now.queue.now in
    let service = g.L.LoaderName.service in
    let child = c.in-Some-start_plan in
    let rest = c.run_plans-rest in
    let run = c.join.result in
    let kept = subst (λ task. IsPlanRun queue service task run) child.ensures.task
    (subst (λ q. IsPlanRun q service child.child.promise.task.value run) child.ensures.queue c.join.ensures) in
    record {
      plans = rw c.in-Some.ensures.items (all_joined (IsPlanRun queue service) (λ runs. runs.items) rest.result c.with_plan.result c.pop.new.self.items
          c.in-Some.task run rest.ensures.plans kept c.with_plan.ensures);
    }
