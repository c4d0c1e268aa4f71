-- Refusals that come once threads have run.
use Rattle.std.proofs.Common.{◌≡◌, ◌∙◌, ◌⊎◌, inl, inr, ap, sym, subst, ℕ, zero, suc, ◌+◌, List, [], ◌∷◌, ◌++◌, length, map, Option, Some, None, arith}
use Rattle.std.specs.Prelude.{IfErr, Result}
use Rattle.std.specs.List.{AllZip}
use Rattle.std.proofs.lemmas.List.{length-map}
use Rattle.std.proofs.lemmas.Slice.Zip.{AllZip-long}
use Rattle.dl_history.specs.Agreement.{Account}
use Rattle.dl_desk.specs.Service.{Service}
use Rattle.dl_loader.specs.Book.{Keeps, Book}
use Rattle.dl_loader.specs.CloseRefusals.{RefusesClose}
use Rattle.dl_loader.specs.Pass.{Trace, Pass, new_traces}
use Rattle.dl_history.specs.declared.fault.CloseFault.{CloseFault}
use Rattle.dl_workers.specs.declared.queue.JobQueue.{JobQueue}
use Rattle.dl_workers.specs.declared.worker.WorkerEnd.{WorkerEnd}
use Rattle.dl_haxl.specs.RunFaults.{IsRunFault}
use Rattle.dl_haxl.specs.declared.fault.RunFault.{RunFault}
use Rattle.dl_haxl.specs.declared.step_answers.StepAnswers.{StepAnswers}
use Rattle.dl_scope.specs.Faults.{AreEnds, MayServe, Met, RefusedAs, MayMeet}
use Rattle.dl_scope.specs.Inside.Results.{IsFaultOf, fault_of, met}
use Rattle.dl_scope.specs.Inside.ThreadRuns.{IsPlanRun, IsWorkerRun}
use Rattle.dl_scope.specs.declared.fault.ScopeFault.{ScopeFault}
use Rattle.dl_scope.specs.declared.fault.ScopeFault.TheVariants.{NoPlans, TooManyPlans, BadWorkers, Start, Queue, Run, Stopped, Close, Unfetched, OutOfMemory}
use Rattle.dl_scope.specs.declared.threads.tasks.PlanTask.{PlanTask}
use Rattle.dl_scope.specs.declared.threads.runs.PlanRun.{PlanRun}
use Rattle.dl_scope.specs.declared.threads.tasks.WorkerTask.{WorkerTask}
use Rattle.dl_scope.specs.declared.threads.runs.WorkerRun.{WorkerRun}
use Rattle.dl_scope.specs.declared.setup.Setup.{Setup}
use Rattle.dl_scope.proofs.PlanFaults.{met_given}
use Rattle.dl_scope.proofs.PassPlaces.{fresh_first, parts_of}
use Rattle.dl_terms.specs.declared.plan.Plan.{Plan}

none_before : (n : ℕ) → 0 + n ≡ n
none_before n = omega arith

-- ---- how plans and workers ended

module _ {L : Type 0} (queue : JobQueue) (service : Service) where
  -- a fault that a plan's run met is one that evaluations of its caller may meet
  faults_may_be : (n k : ℕ) (tasks : List (PlanTask L)) (runs : List (PlanRun L)) (others : List Pass) → AllZip (IsPlanRun queue service) tasks runs
      → parts_of (map (λ task. task.pass) tasks ++ others) ≡ new_traces n k → (m : ℕ) (fault : RunFault) → Met (map fault_of runs) m fault
      → MayMeet service (n + m) fault
  faults_may_be n k [] [] others kept is m fault at = absurd (let bad : ◌≡◌ {A = Option (Option RunFault)} None (Some (Some fault)) = at in cc)
  faults_may_be n k [] (run ∷ runs) others kept is m fault at = absurd kept
  faults_may_be n k (task ∷ tasks) [] others kept is m fault at = absurd kept
  faults_may_be n k (task ∷ tasks) (run ∷ runs) others (one, kept) is zero fault at =
      let first = fresh_first n k task.pass.trace (parts_of (map (λ (t : PlanTask L). t.pass) tasks ++ others)) is in
      let here : met run.given ≡ Some fault = cc in
      let flags = run.pass.flags in
      let may : IsRunFault service task.pass.trace.caller flags fault =
      subst (λ (g : Result StepAnswers RunFault). IfErr g (IsRunFault service task.pass.trace.caller flags)) (met_given run.given fault here) one.2 in
      let number : n ≡ n + 0 = omega arith in
      (flags, subst (λ c. IsRunFault service c flags fault) (ap (λ (p : Trace). p.caller) first.1 ∙ number) may)
  faults_may_be n k (task ∷ tasks) (run ∷ runs) others (one, kept) is (suc m) fault at =
      let first = fresh_first n k task.pass.trace (parts_of (map (λ (t : PlanTask L). t.pass) tasks ++ others)) is in
      let number : suc n + m ≡ n + suc m = omega arith in
      subst (λ c. MayMeet service c fault) number (faults_may_be (suc n) first.0 tasks runs others kept first.2 m fault at)

  -- the runs of all plans and workers are their ends
  pub are_ends : (k workers : ℕ) (plans : List Plan) (tasks : List (PlanTask L)) (runs : List (PlanRun L)) (worker_tasks : List (WorkerTask L))
      (worker_runs : List (WorkerRun L)) → AllZip (IsPlanRun queue service) tasks runs → AllZip (IsWorkerRun queue service) worker_tasks worker_runs
      → parts_of (map (λ task. task.pass) tasks ++ map (λ task. task.pass) worker_tasks) ≡ new_traces 0 k → map (λ task. task.plan) tasks ≡ plans
      → length worker_tasks ≡ workers → AreEnds service (length plans) workers (map fault_of runs) (map (λ run. run.end) worker_runs)
  are_ends k workers plans tasks runs worker_tasks worker_runs kept worked is plans_are count =
      let long = AllZip-long (IsPlanRun queue service) tasks runs kept in
      let long2 = AllZip-long (IsWorkerRun queue service) worker_tasks worker_runs worked in
      let each = length-map runs (fault_of {L = L}) in
      let each2 = length-map worker_runs (λ (run : WorkerRun L). run.end) in
      let all = length-map tasks (λ (task : PlanTask L). task.plan) in
      let same = ap length plans_are in
      record {
        each_plan = omega (arith, long, each, all, same);
        each_worker = omega (arith, long2, each2, count);
        may_be = λ n fault at. subst (λ m. MayMeet service m fault) (none_before n)
            (faults_may_be 0 k tasks runs (map (λ (task : WorkerTask L). task.pass) worker_tasks) kept is n fault at);
      }

-- a fault of the runs
run_refused : (service : Service) (setup : Setup) (plans : List Plan) (faults : List (Option RunFault)) (ends : List WorkerEnd) (fault : ScopeFault)
    → MayServe setup (length plans) → AreEnds service (length plans) setup.workers faults ends → IsFaultOf faults ends fault
    → RefusedAs service setup plans fault
run_refused service setup plans faults ends (Run plan fault) may are least = (may, (faults, ends, are, least))
run_refused service setup plans faults ends Stopped may are stopped = (may, (faults, ends, are, stopped))
run_refused service setup plans faults ends NoPlans may are fault = absurd fault
run_refused service setup plans faults ends TooManyPlans may are fault = absurd fault
run_refused service setup plans faults ends BadWorkers may are fault = absurd fault
run_refused service setup plans faults ends (Start why) may are fault = absurd fault
run_refused service setup plans faults ends (Queue why) may are fault = absurd fault
run_refused service setup plans faults ends (Close why) may are fault = absurd fault
run_refused service setup plans faults ends (Unfetched batch) may are fault = absurd fault
run_refused service setup plans faults ends OutOfMemory may are fault = absurd fault

-- a fault of the runs, or that memory ran out
pub results_refused : (service : Service) (setup : Setup) (plans : List Plan) (faults : List (Option RunFault)) (ends : List WorkerEnd) (fault : ScopeFault)
    → MayServe setup (length plans) → AreEnds service (length plans) setup.workers faults ends → (fault ≡ OutOfMemory) ⊎ IsFaultOf faults ends fault
    → RefusedAs service setup plans fault
results_refused service setup plans faults ends fault may are (inl is) = subst (RefusedAs service setup plans) (sym is) may
results_refused service setup plans faults ends fault may are (inr why) = run_refused service setup plans faults ends fault may are why

-- a refused close
pub close_refused : (service : Service) (setup : Setup) (plans : List Plan) (accounts : List Account) (fault : CloseFault) → MayServe setup (length plans)
    → ((b : Book) × Keeps service b × RefusesClose service.callers b accounts fault) → RefusedAs service setup plans (Close fault)
close_refused service setup plans accounts fault may (b, keeps, refuses) = (may, (b, accounts, keeps, refuses))
