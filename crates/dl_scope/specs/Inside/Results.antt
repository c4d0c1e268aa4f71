-- How the threads of a server ended, and why there is no report.
use Rattle.std.specs.Prelude.{◌≡◌, ℕ, List, Option, Some, None, Result, Ok, Err, IfErr}
use Rattle.dl_workers.specs.declared.worker.WorkerEnd.{WorkerEnd}
use Rattle.dl_workers.specs.declared.worker.WorkerEnd.TheVariants.{Done}
use Rattle.dl_haxl.specs.declared.fault.RunFault.{RunFault}
use Rattle.dl_scope.specs.declared.fault.ScopeFault.{ScopeFault}
use Rattle.dl_scope.specs.declared.fault.ScopeFault.TheVariants.{NoPlans, TooManyPlans, BadWorkers, Start, Queue, Run, Stopped, Close, Unfetched, OutOfMemory}
use Rattle.dl_haxl.specs.declared.step_answers.StepAnswers.{StepAnswers}
use Rattle.dl_scope.specs.Faults.{IsStop, IsLeastFault, WereStopped}
use Rattle.dl_scope.specs.declared.threads.runs.PlanRun.{PlanRun}
use Rattle.dl_scope.specs.declared.threads.runs.WorkerRun.{WorkerRun}

-- the fault that steps met, or none
abbrev pub met : Result StepAnswers RunFault → Option RunFault
met (Ok given) = None
met (Err fault) = Some fault

-- why there is no report where plans met these faults and workers ended so
abbrev pub IsFaultOf : List (Option RunFault) → List WorkerEnd → ScopeFault → Type 0
IsFaultOf faults ends (Run plan fault) = IsLeastFault faults plan fault
IsFaultOf faults ends Stopped = WereStopped faults ends
IsFaultOf faults ends NoPlans = ⊥
IsFaultOf faults ends TooManyPlans = ⊥
IsFaultOf faults ends BadWorkers = ⊥
IsFaultOf faults ends (Start fault) = ⊥
IsFaultOf faults ends (Queue fault) = ⊥
IsFaultOf faults ends (Close fault) = ⊥
IsFaultOf faults ends (Unfetched batch) = ⊥
IsFaultOf faults ends OutOfMemory = ⊥

module _ {L : Type 0} where
  -- the fault that the plan met, or none
  abbrev pub fault_of : PlanRun L → Option RunFault
  fault_of run = met run.given

  -- the plan met no other fault than that the loader was stopped
  abbrev pub MetNoOwn : PlanRun L → Type 0
  MetNoOwn run = IfErr run.given IsStop

  -- the worker took jobs until the queue was shut
  abbrev pub IsDone : WorkerRun L → Type 0
  IsDone run = (batches : ℕ) × (run.end ≡ Done batches)
