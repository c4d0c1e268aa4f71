use Rattle.std.proofs.Common.{subst}
use Rattle.std.specs.Prelude.{Some}
use Rattle.std.proofs.lemmas.List.Elements.{All-pop}
use Rattle.std.specs.List.{AllZip}
use Rattle.dl_workers.specs.Seats.{IsTakerOf}
use Rattle.dl_scope.specs.Inside.ThreadRuns.{IsPlanRun, IsWorkerRun, SendsNothing}
use Rattle.dl_scope.specs.declared.threads.tasks.WorkerTask.{WorkerTask}
use Rattle.dl_scope.proofs.ThreadJoins.{all_joined, others_stay}
use Rattle.dl_scope.proofs.threads.+run_workers.Goals as goal

pub start_worker-requires-clause-seat : goal.start_worker-requires-clause-seat
start_worker-requires-clause-seat g t c = λ κs live.
    let is_seat : WorkerTask g.row.L.Denot → Type 0 = λ task. IsTakerOf c.args.server.now.queue.now task.taker in
    (All-pop is_seat c.args.workers.items c.pop.new.self.items (Some c.in-Some.task) c.in-Some.ensures.items c.requires.workers).1

pub run_workers-rest-requires-clause-workers : goal.run_workers-rest-requires-clause-workers
run_workers-rest-requires-clause-workers g t c = λ κs live.
    let is_seat : WorkerTask g.row.L.Denot → Type 0 = λ task. IsTakerOf c.args.server.now.queue.now task.taker in
    (All-pop is_seat c.args.workers.items c.pop.new.self.items (Some c.in-Some.task) c.in-Some.ensures.items c.requires.workers).0

-- with the task back at the end of the list that it was taken from
pub returns : goal.returns
returns g t c =
    let queue = c.args.server.now.queue.now in
    let service = g.L.LoaderName.service in
    let child = c.in-Some-start_worker in
    let rest = c.run_workers-rest in
    let run = c.join.result in
    let kept = subst (λ task. IsWorkerRun queue service task run) child.ensures.task
    (subst (λ q. IsWorkerRun q service child.child.promise.task.value run) child.ensures.queue c.join.ensures) in
    record {
      workers = rw c.in-Some.ensures.items (all_joined (IsWorkerRun queue service) (λ runs. runs.workers.items) rest.result c.with_worker.result
          c.pop.new.self.items c.in-Some.task run rest.ensures.workers kept c.with_worker.ensures.workers);
      plans = others_stay (λ plans. AllZip (IsPlanRun queue service) c.args.plans.items plans.items) (λ runs. runs.plans) rest.result c.with_worker.result
          rest.ensures.plans c.with_worker.ensures.plans;
      own = others_stay (SendsNothing queue c.args.own) (λ runs. runs.own) rest.result c.with_worker.result rest.ensures.own c.with_worker.ensures.own;
    }
