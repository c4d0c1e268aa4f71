-- What is known of what the threads of plans and workers give back.
use Rattle.std.specs.Prelude.{◌≡◌, IfOk, IfErr}
use Rattle.dl_desk.specs.Service.{Service}
use Rattle.dl_workers.specs.Seats.{IsSenderOf, IsTakerOf, sent_jobs, taken_jobs}
use Rattle.dl_workers.specs.declared.queue.JobQueue.{JobQueue}
use Rattle.dl_workers.specs.declared.seats.Sender.{Sender}
use Rattle.dl_haxl.specs.PlanEntries.{FollowsAndSends}
use Rattle.dl_haxl.specs.Rounds.{AddsAndSends}
use Rattle.dl_haxl.specs.RunFaults.{IsRunFault}
use Rattle.dl_scope.specs.declared.threads.tasks.PlanTask.{PlanTask}
use Rattle.dl_scope.specs.declared.threads.tasks.WorkerTask.{WorkerTask}
use Rattle.dl_scope.specs.declared.threads.runs.PlanRun.{PlanRun}
use Rattle.dl_scope.specs.declared.threads.runs.WorkerRun.{WorkerRun}
use Rattle.dl_workers.specs.WorkerResult.{Worked}

-- the server's own sender is one of the queue still, and has sent nothing more
abbrev pub SendsNothing : JobQueue → Sender → Sender → Type 0
SendsNothing queue old new = IsSenderOf queue new × (sent_jobs new ≡ sent_jobs old)

module _ {L : Type 0} where
  -- The sender is one of the queue still. Where no step met a fault, what the pass gained are the entries of the plan's steps,
  -- and the jobs that were sent are theirs; else the fault is one that an evaluation may meet.
  abbrev pub IsPlanRun : JobQueue → Service → PlanTask L → PlanRun L → Type 0
  IsPlanRun queue service task run = IsSenderOf queue run.sender
      × IfOk run.given (λ given. AddsAndSends task.pass.trace run.pass.trace (sent_jobs task.sender) (sent_jobs run.sender)
      (λ lines sent. FollowsAndSends task.pass.trace.caller task.plan.steps.items lines given.answers.items given.rounds sent))
      × IfErr run.given (IsRunFault service task.pass.trace.caller run.pass.flags)

  -- The taker is one of the queue still, and the worker worked.
  abbrev pub IsWorkerRun : JobQueue → Service → WorkerTask L → WorkerRun L → Type 0
  IsWorkerRun queue service task run = IsTakerOf queue run.taker
      × Worked service run.end (taken_jobs task.taker) (taken_jobs run.taker) task.pass.trace run.pass.trace
