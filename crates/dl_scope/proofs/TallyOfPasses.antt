-- What the tally of the queue counts, by what the passes tell: jobs of the plans' dispatches, and ends by the workers.
use Rattle.std.proofs.Common.{◌≡◌, ◌∙◌, ap, sym, subst, refl, ℕ, suc, ◌+◌, ◌≤◌, Bool, true, false, arith}
use Rattle.std.proofs.Common.{List, [], ◌∷◌, ◌++◌, length, map, flat_map, length-append}
use Rattle.std.proofs.Common.{nat_le, if◌then◌else◌}
use Rattle.std.specs.Prelude.{IfOk, Result}
use Rattle.std.specs.List.{AllByRecursion, AllZip}
use Rattle.std.proofs.lemmas.Bool.Decides.{nat_tests}
use Rattle.dl_history.specs.Lists.{total}
use Rattle.dl_desk.specs.Service.{Service}
use Rattle.dl_loader.specs.Pass.{Trace, trace, Pass, new_traces}
use Rattle.dl_workers.specs.Balance.{Balances}
use Rattle.dl_workers.specs.Seats.{sent_jobs, taken_jobs}
use Rattle.dl_loader.specs.Dispatches.{dispatched, events_told, unsent}
use Rattle.dl_workers.specs.WorkerResult.{EndedEach, Worked}
use Rattle.dl_workers.specs.declared.queue.JobQueue.{JobQueue}
use Rattle.dl_workers.specs.declared.queue.Tally.{Tally}
use Rattle.dl_workers.specs.declared.seats.Sender.{Sender}
use Rattle.dl_workers.specs.declared.seats.Taker.{Taker}
use Rattle.dl_workers.specs.declared.worker.WorkerEnd.{WorkerEnd}
use Rattle.dl_loader.proofs.EndEntries.{TellEnds, ended_adds, tell_ends}
use Rattle.dl_haxl.specs.PlanEntries.{FollowsAndSends}
use Rattle.dl_haxl.specs.Rounds.{AddsAndSends}
use Rattle.dl_haxl.specs.declared.fault.RunFault.{RunFault}
use Rattle.dl_haxl.specs.declared.step_answers.StepAnswer.{StepAnswer}
use Rattle.dl_haxl.specs.declared.step_answers.StepAnswers.{StepAnswers}
use Rattle.dl_haxl.proofs.JobCounts.{EachSent, follows_counted}
use Rattle.dl_scope.specs.Inside.ThreadResults.{AllGave, Gave}
use Rattle.dl_scope.specs.Inside.Results.{IsDone}
use Rattle.dl_scope.specs.Inside.ThreadRuns.{IsPlanRun, IsWorkerRun}
use Rattle.dl_scope.specs.Inside.ServedPlans.{IsCounted}
use Rattle.dl_scope.specs.declared.threads.tasks.PlanTask.{PlanTask}
use Rattle.dl_scope.specs.declared.threads.runs.PlanRun.{PlanRun}
use Rattle.dl_scope.specs.declared.threads.tasks.WorkerTask.{WorkerTask}
use Rattle.dl_scope.specs.declared.threads.runs.WorkerRun.{WorkerRun}
use Rattle.dl_scope.proofs.CallTotals.{long_each, total-map}
use Rattle.dl_scope.proofs.PassPlaces.{added_to_fresh, fresh_first, parts_of}

-- ---- what is counted of a pass

abbrev pub unsent_in : Trace → ℕ
unsent_in p = length (unsent (events_told p.entries))

abbrev pub dispatched_in : Trace → ℕ
dispatched_in p = length (dispatched (events_told p.entries))

-- its calls, if it is one of the callers after so many plans
abbrev pub taken_in : ℕ → Trace → ℕ
taken_in plans p = if nat_le plans p.caller then length (events_told p.entries) else 0

-- the fresh traces after some
pub fresh_after : (n k : ℕ) (passes others : List Pass) → parts_of (passes ++ others) ≡ new_traces n k
    → (m : ℕ) × (parts_of others ≡ new_traces (n + length passes) m)
fresh_after n k [] others is = let same : n ≡ n + 0 = omega arith in (k, subst (λ i. parts_of others ≡ new_traces i k) same is)
fresh_after n k (p ∷ passes) others is =
    let first = fresh_first n k p.trace (parts_of (passes ++ others)) is in
    let rest = fresh_after (suc n) first.0 passes others first.2 in
    let same : suc n + length passes ≡ n + suc (length passes) = omega arith in
    (rest.0, subst (λ i. parts_of others ≡ new_traces i rest.0) same rest.1)

module _ {L : Type 0} (queue : JobQueue) (service : Service) (plans : ℕ) where
  -- ---- plans

  plan_counts : (n : ℕ) (task : PlanTask L) (run : PlanRun L) (a : List StepAnswer) (r : ℕ) → sent_jobs task.sender ≡ [] → task.pass.trace ≡ trace n [] []
      → IsPlanRun queue service task run → Gave run a r → (run.pass.trace.caller ≡ n) × EachSent run.pass.trace.entries (sent_jobs run.sender)
  plan_counts n task run a r none is kept (given, gave, answers, rounds) =
      let own : AddsAndSends task.pass.trace run.pass.trace (sent_jobs task.sender) (sent_jobs run.sender)
      (λ lines sent. FollowsAndSends task.pass.trace.caller task.plan.steps.items lines given.answers.items given.rounds sent) =
      subst (λ (g : Result StepAnswers RunFault). IfOk g (λ given. AddsAndSends task.pass.trace run.pass.trace (sent_jobs task.sender) (sent_jobs run.sender)
      (λ lines sent. FollowsAndSends task.pass.trace.caller task.plan.steps.items lines given.answers.items given.rounds sent))) gave kept.1 in
      let all = added_to_fresh n task.pass.trace run.pass.trace
      (λ lines. FollowsAndSends task.pass.trace.caller task.plan.steps.items lines given.answers.items given.rounds own.0) is own.2 in
      let sent : sent_jobs run.sender ≡ own.0 = own.1 ∙ ap (λ js. js ++ own.0) none in (
        all.0,
        subst (λ js. EachSent run.pass.trace.entries js) (sym sent) (follows_counted task.pass.trace.caller task.plan.steps.items run.pass.trace.entries
            given.answers.items given.rounds own.0 all.1),
      )

  -- what the plans sent is what their dispatches handed out, but for what failed as unsent
  pub record PlansCount (runs : List (PlanRun L)) : Type 0 where
    pub sent : total (λ run. length (sent_jobs run.sender)) runs + total (λ run. unsent_in run.pass.trace) runs
        ≡ total (λ run. dispatched_in run.pass.trace) runs
    pub taken : total (λ run. taken_in plans run.pass.trace) runs ≡ 0

  pub plans_count : (n k : ℕ) (tasks : List (PlanTask L)) (runs : List (PlanRun L)) (answers : List (List StepAnswer)) (rounds : List ℕ) (others : List Pass)
      → AllZip (IsPlanRun queue service) tasks runs → AllGave runs answers rounds → AllByRecursion (λ task. sent_jobs task.sender ≡ []) tasks
      → parts_of (map (λ task. task.pass) tasks ++ others) ≡ new_traces n k → n + length tasks ≤ plans → PlansCount runs
  plans_count n k [] [] [] [] others kept gave none is low = record { sent = refl; taken = refl }
  plans_count n k (task ∷ tasks) (run ∷ runs) (a ∷ answers) (r ∷ rounds) others (one, kept) (given, gave) (none, unused) is low =
      let first = fresh_first n k task.pass.trace (parts_of (map (λ (t : PlanTask L). t.pass) tasks ++ others)) is in
      let here = plan_counts n task run a r none first.1 one given in
      let rest = plans_count (suc n) first.0 tasks runs answers rounds others kept gave unused first.2 (omega (arith, low)) in
      let past : nat_le plans run.pass.trace.caller ≡ false = grind (arith, nat_tests) in
      let zero_here : taken_in plans run.pass.trace ≡ 0 = ap (λ (t : Bool). if t then length (events_told run.pass.trace.entries) else 0) past in
      let sent = here.1 in
      let sent2 = rest.sent in
      let taken2 = rest.taken in
      record { sent = omega (arith, sent, sent2); taken = omega (arith, zero_here, taken2) }
  plans_count n k [] (run ∷ runs) answers rounds others kept gave none is low = absurd kept
  plans_count n k (task ∷ tasks) [] answers rounds others kept gave none is low = absurd kept
  plans_count n k [] [] (a ∷ answers) rounds others kept gave none is low = absurd gave
  plans_count n k [] [] [] (r ∷ rounds) others kept gave none is low = absurd gave
  plans_count n k (task ∷ tasks) (run ∷ runs) [] rounds others kept gave none is low = absurd gave
  plans_count n k (task ∷ tasks) (run ∷ runs) (a ∷ answers) [] others kept gave none is low = absurd gave

  -- ---- workers

  worker_counts : (n : ℕ) (task : WorkerTask L) (run : WorkerRun L) → taken_jobs task.taker ≡ [] → task.pass.trace ≡ trace n [] []
      → IsWorkerRun queue service task run → IsDone run → (run.pass.trace.caller ≡ n) × TellEnds (taken_jobs run.taker) run.pass.trace.entries
  worker_counts n task run none is kept (batches, done) =
      let ended : EndedEach service batches (taken_jobs task.taker) (taken_jobs run.taker) task.pass.trace run.pass.trace =
      subst (λ (e : WorkerEnd). Worked service e (taken_jobs task.taker) (taken_jobs run.taker) task.pass.trace run.pass.trace) done kept.1 in
      let all = added_to_fresh n task.pass.trace run.pass.trace (λ lines. TellEnds ended.jobs lines) is
      (let added = ended_adds service task.pass.trace run.pass.trace ended.jobs ended.ended in
      (added.0, added.1, added.2, tell_ends service task.pass.trace.caller ended.jobs added.1 added.3)) in
      let taken : taken_jobs run.taker ≡ ended.jobs = ended.taken ∙ ap (λ js. js ++ ended.jobs) none in
      (all.0, subst (λ js. TellEnds js run.pass.trace.entries) (sym taken) all.1)

  -- what the workers took are their calls, none of which is a dispatch or fails a batch as unsent
  pub record WorkersCount (runs : List (WorkerRun L)) : Type 0 where
    pub taken : total (λ run. length (taken_jobs run.taker)) runs ≡ total (λ run. taken_in plans run.pass.trace) runs
    pub none_unsent : total (λ run. unsent_in run.pass.trace) runs ≡ 0
    pub none_dispatched : total (λ run. dispatched_in run.pass.trace) runs ≡ 0

  pub workers_count : (n k : ℕ) (tasks : List (WorkerTask L)) (runs : List (WorkerRun L)) → AllZip (IsWorkerRun queue service) tasks runs
      → AllByRecursion IsDone runs → AllByRecursion (λ task. taken_jobs task.taker ≡ []) tasks
      → parts_of (map (λ task. task.pass) tasks) ≡ new_traces n k → plans ≤ n → WorkersCount runs
  workers_count n k [] [] kept done none is high = record { taken = refl; none_unsent = refl; none_dispatched = refl }
  workers_count n k [] (run ∷ runs) kept done none is high = absurd kept
  workers_count n k (task ∷ tasks) [] kept done none is high = absurd kept
  workers_count n k (task ∷ tasks) (run ∷ runs) (one, kept) (first_done, done) (none, unused) is high =
      let first = fresh_first n k task.pass.trace (parts_of (map (λ (t : WorkerTask L). t.pass) tasks)) is in
      let here = worker_counts n task run none first.1 one first_done in
      let rest = workers_count (suc n) first.0 tasks runs kept done unused first.2 (omega (arith, high)) in
      let after : nat_le plans run.pass.trace.caller ≡ true = grind (arith, nat_tests) in
      let taken_here : taken_in plans run.pass.trace ≡ length (events_told run.pass.trace.entries) =
      ap (λ (t : Bool). if t then length (events_told run.pass.trace.entries) else 0) after in
      let calls = here.1.calls in
      let no_back : unsent_in run.pass.trace ≡ 0 = ap length here.1.none_unsent in
      let no_job : dispatched_in run.pass.trace ≡ 0 = ap length here.1.none_dispatched in
      let taken2 = rest.taken in
      let no_back2 = rest.none_unsent in
      let no_job2 = rest.none_dispatched in
      record {
        taken = omega (arith, taken_here, calls, taken2);
        none_unsent = omega (arith, no_back, no_back2);
        none_dispatched = omega (arith, no_job, no_job2);
      }

  -- ---- all of them

  -- a total over the traces of all passes
  all_parts : (f : Trace → ℕ) (runs : List (PlanRun L)) (worker_runs : List (WorkerRun L))
      → total f (parts_of (map (λ run. run.pass) runs ++ map (λ run. run.pass) worker_runs))
      ≡ total (λ run. f run.pass.trace) runs + total (λ run. f run.pass.trace) worker_runs
  all_parts f [] [] = refl
  all_parts f [] (run ∷ worker_runs) = let rest = all_parts f [] worker_runs in omega (arith, rest)
  all_parts f (run ∷ runs) worker_runs = let rest = all_parts f runs worker_runs in omega (arith, rest)

  sent_long : (runs : List (PlanRun L)) (own : Sender) → sent_jobs own ≡ []
      → length (flat_map sent_jobs (map (λ run. run.sender) runs ++ own ∷ [])) ≡ total (λ run. length (sent_jobs run.sender)) runs
  sent_long [] own unused =
      let one = length-append (sent_jobs own) [] in
      let none : length (sent_jobs own) ≡ 0 = ap length unused in
      omega (arith, one, none)
  sent_long (run ∷ runs) own unused =
      let rest = sent_long runs own unused in
      let one = length-append (sent_jobs run.sender) (flat_map sent_jobs (map (λ (r : PlanRun L). r.sender) runs ++ own ∷ [])) in
      omega (arith, one, rest)

  taken_long : (runs : List (WorkerRun L)) → length (flat_map taken_jobs (map (λ run. run.taker) runs)) ≡ total (λ run. length (taken_jobs run.taker)) runs
  taken_long runs =
      long_each taken_jobs (map (λ (run : WorkerRun L). run.taker) runs)
      ∙ total-map (λ (t : Taker). length (taken_jobs t)) (λ (run : WorkerRun L). run.taker) runs

  -- the tally counts by the passes that are given back
  pub all_counted : (runs : List (PlanRun L)) (worker_runs : List (WorkerRun L)) (own : Sender) (senders : List Sender) (takers : List Taker)
      (passes : List Pass) (tally : Tally) → PlansCount runs → WorkersCount worker_runs → sent_jobs own ≡ []
      → senders ≡ map (λ (run : PlanRun L). run.sender) runs ++ own ∷ [] → takers ≡ map (λ (run : WorkerRun L). run.taker) worker_runs
      → passes ≡ map (λ (run : PlanRun L). run.pass) runs ++ map (λ (run : WorkerRun L). run.pass) worker_runs
      → Balances senders takers tally → tally.sent ≡ tally.taken + tally.left → IsCounted plans (parts_of passes) tally
  all_counted runs worker_runs own senders takers passes tally plans_sum workers_sum unused senders_are takers_are passes_are balances sum =
      let sent : tally.sent ≡ total (λ (run : PlanRun L). length (sent_jobs run.sender)) runs =
      balances.counts_sent ∙ (ap (λ ss. length (flat_map sent_jobs ss)) senders_are ∙ sent_long runs own unused) in
      let taken : tally.taken ≡ total (λ (run : WorkerRun L). length (taken_jobs run.taker)) worker_runs =
      balances.counts_taken ∙ (ap (λ ts. length (flat_map taken_jobs ts)) takers_are ∙ taken_long worker_runs) in
      let over = λ (f : Trace → ℕ). ap (λ (ps : List Pass). total f (parts_of ps)) passes_are ∙ all_parts f runs worker_runs in
      let back = over unsent_in in
      let jobs = over dispatched_in in
      let ends = over (taken_in plans) in
      let plans_sent = plans_sum.sent in
      let plans_taken = plans_sum.taken in
      let workers_taken = workers_sum.taken in
      let workers_back = workers_sum.none_unsent in
      let workers_jobs = workers_sum.none_dispatched in
      record {
        sent = omega (arith, sent, back, jobs, plans_sent, workers_back, workers_jobs);
        taken = omega (arith, taken, ends, plans_taken, workers_taken);
        sum = sum;
      }
