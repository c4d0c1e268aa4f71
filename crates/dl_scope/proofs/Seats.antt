-- Seats that are dealt out and given back.
use Rattle.std.proofs.Common.{◌≡◌, ◌∙◌, ap, refl, ℕ, ◌+◌, List, [], ◌∷◌, ◌++◌, length, map, arith, length-append, zero, suc}
use Rattle.std.specs.List.{AllByRecursion, AllZip}
use Rattle.std.proofs.lemmas.List.{length-map}
use Rattle.std.proofs.lemmas.List.Elements.{All-from_recursion, All-append, All-cons, All-nil, All-same}
use Rattle.std.proofs.lemmas.Slice.Zip.{AllZip-long}
use Rattle.dl_desk.specs.Service.{Service}
use Rattle.dl_workers.specs.Seats.{AreSeatsOf, IsSenderOf, IsTakerOf}
use Rattle.dl_workers.specs.declared.queue.JobQueue.{JobQueue}
use Rattle.dl_workers.specs.declared.seats.Sender.{Sender}
use Rattle.dl_workers.specs.declared.seats.Taker.{Taker}
use Rattle.dl_scope.specs.Inside.ThreadRuns.{IsPlanRun, IsWorkerRun}
use Rattle.dl_scope.specs.declared.threads.tasks.PlanTask.{PlanTask}
use Rattle.dl_scope.specs.declared.threads.runs.PlanRun.{PlanRun}
use Rattle.dl_scope.specs.declared.threads.tasks.WorkerTask.{WorkerTask}
use Rattle.dl_scope.specs.declared.threads.runs.WorkerRun.{WorkerRun}
use Rattle.dl_loader.specs.Pass.{new_traces}

module _ {L : Type 0} (queue : JobQueue) (service : Service) where
  senders_by : (tasks : List (PlanTask L)) (runs : List (PlanRun L)) → AllZip (IsPlanRun queue service) tasks runs
      → AllByRecursion (IsSenderOf queue) (map (λ (run : PlanRun L). run.sender) runs)
  senders_by [] [] kept = tt
  senders_by [] (run ∷ runs) kept = absurd kept
  senders_by (task ∷ tasks) [] kept = absurd kept
  senders_by (task ∷ tasks) (run ∷ runs) (one, others) = (one.0, senders_by tasks runs others)

  takers_by : (tasks : List (WorkerTask L)) (runs : List (WorkerRun L)) → AllZip (IsWorkerRun queue service) tasks runs
      → AllByRecursion (IsTakerOf queue) (map (λ (run : WorkerRun L). run.taker) runs)
  takers_by [] [] kept = tt
  takers_by [] (run ∷ runs) kept = absurd kept
  takers_by (task ∷ tasks) [] kept = absurd kept
  takers_by (task ∷ tasks) (run ∷ runs) (one, others) = (one.0, takers_by tasks runs others)

  -- all seats are given back
  pub seats_back : (tasks : List (PlanTask L)) (runs : List (PlanRun L)) (worker_tasks : List (WorkerTask L)) (worker_runs : List (WorkerRun L))
      (own : Sender) (senders : List Sender) (takers : List Taker)
      → AllZip (IsPlanRun queue service) tasks runs → AllZip (IsWorkerRun queue service) worker_tasks worker_runs → IsSenderOf queue own
      → length tasks + 1 ≡ queue.senders → length worker_tasks ≡ queue.takers
      → senders ≡ map (λ (run : PlanRun L). run.sender) runs ++ own ∷ [] → takers ≡ map (λ (run : WorkerRun L). run.taker) worker_runs
      → AreSeatsOf queue senders takers
  seats_back tasks runs worker_tasks worker_runs own senders takers kept worked is_own count count2 are are2 =
      let sent = map (λ (run : PlanRun L). run.sender) runs in
      let took = map (λ (run : WorkerRun L). run.taker) worker_runs in
      let long = AllZip-long (IsPlanRun queue service) tasks runs kept in
      let long2 = AllZip-long (IsWorkerRun queue service) worker_tasks worker_runs worked in
      let mapped = length-map runs (λ (run : PlanRun L). run.sender) in
      let mapped2 = length-map worker_runs (λ (run : WorkerRun L). run.taker) in
      let whole = ap length are ∙ length-append sent (own ∷ []) in
      let whole2 = ap length are2 in
      record {
        all_senders = omega (arith, long, mapped, whole, count);
        all_takers = omega (arith, long2, mapped2, whole2, count2);
        senders_of = All-same (IsSenderOf queue) senders (sent ++ own ∷ []) are (All-append (IsSenderOf queue) sent (own ∷ [])
            (All-from_recursion (IsSenderOf queue) sent (senders_by tasks runs kept)) (All-cons (IsSenderOf queue) own [] is_own (All-nil (IsSenderOf queue))));
        takers_of = All-same (IsTakerOf queue) takers took are2 (All-from_recursion (IsTakerOf queue) took (takers_by worker_tasks worker_runs worked));
      }

-- as many fresh traces as were asked for
pub fresh_long : (n k : ℕ) → length (new_traces n k) ≡ k
fresh_long n zero = refl
fresh_long n (suc k) = ap suc (fresh_long (n + 1) k)
