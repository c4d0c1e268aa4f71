-- Passes of plans and workers by their callers, as they were dealt out and given back.
use Rattle.std.proofs.Common.{◌≡◌, ◌∙◌, ap, sym, subst, refl, ℕ, zero, suc, ◌+◌, ◌<◌, ◌≤◌, List, [], ◌∷◌, ◌++◌, length, map, arith}
use Rattle.std.proofs.Common.{Option, Some, None, Bool, true, false, if◌then◌else◌, add-one}
use Rattle.std.specs.Prelude.{slice_get, nat_eq, IfOk, Result}
use Rattle.std.specs.List.{AllZip}
use Rattle.std.proofs.lemmas.Bool.Decides.{nat_tests}
use Rattle.dl_haxl.specs.declared.fault.RunFault.{RunFault}
use Rattle.dl_history.specs.Agreement.{Account, account, entries_of}
use Rattle.dl_history.specs.Entries.{Entry}
use Rattle.dl_history.specs.Lists.{Every}
use Rattle.dl_desk.specs.Service.{Service}
use Rattle.dl_loader.specs.Additions.{Adds}
use Rattle.dl_loader.specs.Pass.{Trace, trace, Pass, new_traces}
use Rattle.dl_workers.specs.Seats.{sent_jobs, taken_jobs}
use Rattle.dl_workers.specs.declared.queue.JobQueue.{JobQueue}
use Rattle.dl_haxl.specs.PlanEntries.{Follows, FollowsAndSends}
use Rattle.dl_haxl.specs.Rounds.{AddsAndSends}
use Rattle.dl_scope.specs.Headline.{TellsEnd}
use Rattle.dl_scope.specs.Inside.ThreadResults.{AllGave, Gave}
use Rattle.dl_scope.specs.Inside.ThreadRuns.{IsPlanRun, IsWorkerRun}
use Rattle.dl_scope.specs.Inside.ServedPlans.{AreServed, WorkersServed}
use Rattle.dl_scope.specs.declared.threads.tasks.PlanTask.{PlanTask}
use Rattle.dl_scope.specs.declared.threads.runs.PlanRun.{PlanRun}
use Rattle.dl_scope.specs.declared.threads.tasks.WorkerTask.{WorkerTask}
use Rattle.dl_scope.specs.declared.threads.runs.WorkerRun.{WorkerRun}
use Rattle.dl_terms.specs.declared.plan.Plan.{Plan}
use Rattle.dl_haxl.specs.declared.step_answers.StepAnswer.{StepAnswer}
use Rattle.dl_haxl.specs.declared.step_answers.StepAnswers.{StepAnswers}
use Rattle.dl_scope.proofs.WorkerPasses.{worked_adds}

-- ---- fresh passes

abbrev pub parts_of : List Pass → List Trace
parts_of passes = map (λ p. p.trace) passes

-- the first of fresh traces, and the others
pub fresh_first : (n k : ℕ) (p : Trace) (ps : List Trace) → p ∷ ps ≡ new_traces n k → (m : ℕ) × (p ≡ trace n [] []) × (ps ≡ new_traces (suc n) m)
fresh_first n zero p ps is = absurd (omega (arith, ap length is))
fresh_first n (suc m) p ps is = (m, cc, (let rest : ps ≡ new_traces (n + 1) m = cc in subst (λ i. ps ≡ new_traces i m) (add-one n) rest))

-- ---- what is added to a new trace

pub added_to_fresh : (n : ℕ) (old new : Trace) (P : List Entry → Type 0) → old ≡ trace n [] [] → Adds old new P → (new.caller ≡ n) × P new.entries
added_to_fresh n old new P is (caller, lines, entries, holds) =
    let none : old.entries ≡ [] = ap (λ (p : Trace). p.entries) is in
    let all : new.entries ≡ lines = entries ∙ ap (λ ls. ls ++ lines) none in
    (caller ∙ ap (λ (p : Trace). p.caller) is, subst P (sym all) holds)

module _ {L : Type 0} (queue : JobQueue) (service : Service) where
  one_plan : (n : ℕ) (task : PlanTask L) (run : PlanRun L) (a : List StepAnswer) (r : ℕ) → task.pass.trace ≡ trace n [] [] → IsPlanRun queue service task run
      → Gave run a r → (run.pass.trace.caller ≡ n) × Follows n task.plan.steps.items run.pass.trace.entries a r
  one_plan n task run a r is kept (given, gave, answers, rounds) =
      let own : AddsAndSends task.pass.trace run.pass.trace (sent_jobs task.sender) (sent_jobs run.sender)
      (λ lines sent. FollowsAndSends task.pass.trace.caller task.plan.steps.items lines given.answers.items given.rounds sent) =
      subst (λ (g : Result StepAnswers RunFault). IfOk g (λ given. AddsAndSends task.pass.trace run.pass.trace (sent_jobs task.sender) (sent_jobs run.sender)
      (λ lines sent. FollowsAndSends task.pass.trace.caller task.plan.steps.items lines given.answers.items given.rounds sent))) gave kept.1 in
      let all = added_to_fresh n task.pass.trace run.pass.trace
      (λ lines. FollowsAndSends task.pass.trace.caller task.plan.steps.items lines given.answers.items given.rounds own.0) is own.2 in
      let named = subst (λ c. FollowsAndSends c task.plan.steps.items run.pass.trace.entries given.answers.items given.rounds own.0)
      (ap (λ (p : Trace). p.caller) is) all.1 in (
        all.0,
        (
          own.0,
          subst (λ m. FollowsAndSends n task.plan.steps.items run.pass.trace.entries a m own.0) rounds
              (subst (λ xs. FollowsAndSends n task.plan.steps.items run.pass.trace.entries xs given.rounds own.0) answers named),
        ),
      )

  one_worker : (n : ℕ) (task : WorkerTask L) (run : WorkerRun L) → task.pass.trace ≡ trace n [] [] → IsWorkerRun queue service task run
      → (run.pass.trace.caller ≡ n) × Every TellsEnd run.pass.trace.entries
  one_worker n task run is kept =
      added_to_fresh n task.pass.trace run.pass.trace (λ lines. Every TellsEnd lines) is
      (worked_adds service run.end (taken_jobs task.taker) (taken_jobs run.taker) task.pass.trace run.pass.trace kept.1)

  -- workers that were given fresh passes
  workers_served : (n k : ℕ) (tasks : List (WorkerTask L)) (runs : List (WorkerRun L)) → AllZip (IsWorkerRun queue service) tasks runs
      → parts_of (map (λ task. task.pass) tasks) ≡ new_traces n k → WorkersServed n (parts_of (map (λ run. run.pass) runs))
  workers_served n k [] [] kept is = tt
  workers_served n k [] (run ∷ runs) kept is = absurd kept
  workers_served n k (task ∷ tasks) [] kept is = absurd kept
  workers_served n k (task ∷ tasks) (run ∷ runs) (one, others) is =
      let first = fresh_first n k task.pass.trace (parts_of (map (λ (t : WorkerTask L). t.pass) tasks)) is in
      let here = one_worker n task run first.1 one in
      (here.0, here.1, workers_served (suc n) first.0 tasks runs others first.2)

  -- plans and workers that were given fresh passes
  pub all_served : (n k : ℕ) (tasks : List (PlanTask L)) (runs : List (PlanRun L)) (answers : List (List StepAnswer)) (rounds : List ℕ)
      (worker_tasks : List (WorkerTask L)) (worker_runs : List (WorkerRun L))
      → AllZip (IsPlanRun queue service) tasks runs → AllGave runs answers rounds → AllZip (IsWorkerRun queue service) worker_tasks worker_runs
      → parts_of (map (λ task. task.pass) tasks ++ map (λ task. task.pass) worker_tasks) ≡ new_traces n k
      → AreServed n (map (λ task. task.plan) tasks) answers rounds (parts_of (map (λ run. run.pass) runs ++ map (λ run. run.pass) worker_runs))
  all_served n k [] [] [] [] worker_tasks worker_runs kept gave worked is = workers_served n k worker_tasks worker_runs worked is
  all_served n k (task ∷ tasks) (run ∷ runs) (a ∷ answers) (r ∷ rounds) worker_tasks worker_runs (one, others) (given, gave) worked is =
      let first = fresh_first n k task.pass.trace
      (parts_of (map (λ (t : PlanTask L). t.pass) tasks ++ map (λ (t : WorkerTask L). t.pass) worker_tasks)) is in
      let here = one_plan n task run a r first.1 one given in
      (here.0, here.1, all_served (suc n) first.0 tasks runs answers rounds worker_tasks worker_runs others gave worked first.2)
  all_served n k [] (run ∷ runs) answers rounds worker_tasks worker_runs kept gave worked is = absurd kept
  all_served n k (task ∷ tasks) [] answers rounds worker_tasks worker_runs kept gave worked is = absurd kept
  all_served n k [] [] (a ∷ answers) rounds worker_tasks worker_runs kept gave worked is = absurd gave
  all_served n k [] [] [] (r ∷ rounds) worker_tasks worker_runs kept gave worked is = absurd gave
  all_served n k (task ∷ tasks) (run ∷ runs) [] rounds worker_tasks worker_runs kept gave worked is = absurd gave
  all_served n k (task ∷ tasks) (run ∷ runs) (a ∷ answers) [] worker_tasks worker_runs kept gave worked is = absurd gave

-- ---- accounts by their callers

-- the traces are those of the callers from n on, in order
abbrev pub Numbered : ℕ → List Trace → Type 0
Numbered n [] = Unit {0}
Numbered n (p ∷ traces) = (p.caller ≡ n) × Numbered (suc n) traces

workers_numbered : (n : ℕ) (traces : List Trace) → WorkersServed n traces → Numbered n traces
workers_numbered n [] served = tt
workers_numbered n (p ∷ traces) (caller, work, others) = (caller, workers_numbered (suc n) traces others)

pub served_numbered : (n : ℕ) (plans : List Plan) (answers : List (List StepAnswer)) (rounds : List ℕ) (traces : List Trace)
    → AreServed n plans answers rounds traces → Numbered n traces
served_numbered n [] [] [] traces served = workers_numbered n traces served
served_numbered n (plan ∷ plans) (a ∷ answers) (r ∷ rounds) (p ∷ traces) (caller, follows, others) =
    (caller, served_numbered (suc n) plans answers rounds traces others)
served_numbered n (plan ∷ plans) (a ∷ answers) (r ∷ rounds) [] served = absurd served
served_numbered n (plan ∷ plans) (a ∷ answers) [] traces served = absurd served
served_numbered n (plan ∷ plans) [] rounds traces served = absurd served
served_numbered n [] (a ∷ answers) rounds traces served = absurd served
served_numbered n [] [] (r ∷ rounds) traces served = absurd served

abbrev pub part_account : Trace → Account
part_account p = account p.caller p.entries

entries_step : (b : Bool) (n : ℕ) (a : Account) (accounts : List Account) → nat_eq n a.caller ≡ b
    → entries_of n (a ∷ accounts) ≡ if b then a.entries else entries_of n accounts
entries_step b n a accounts is = ap (λ t. if t then a.entries else entries_of n accounts) is

-- the entries of a caller are those of the trace at its place
pub entries_at : (n i m : ℕ) (traces : List Trace) (p : Trace) → Numbered n traces → m ≡ n + i → slice_get traces i ≡ Some p
    → entries_of m (map part_account traces) ≡ p.entries
entries_at n i m [] p numbered is at = absurd (let bad : ◌≡◌ {A = Option Trace} None (Some p) = at in cc)
entries_at n zero m (q ∷ traces) p (caller, others) is at =
    let same : q ≡ p = cc in
    let here : nat_eq m q.caller ≡ true = grind (arith, nat_tests) in
    entries_step true m (part_account q) (map part_account traces) here ∙ ap (λ (x : Trace). x.entries) same
entries_at n (suc i) m (q ∷ traces) p (caller, others) is at =
    let past : nat_eq m q.caller ≡ false = grind (arith, nat_tests) in
    entries_step false m (part_account q) (map part_account traces) past
    ∙ entries_at (suc n) i m traces p others (omega (arith, is)) at

-- ---- what the report tells of plans and workers

-- a plan's trace is there, and follows the plan
pub plan_at : (n i : ℕ) (plans : List Plan) (answers : List (List StepAnswer)) (rounds : List ℕ) (traces : List Trace)
    → AreServed n plans answers rounds traces → (plan : Plan) (given : List StepAnswer) (r : ℕ) → slice_get plans i ≡ Some plan
    → slice_get answers i ≡ Some given → slice_get rounds i ≡ Some r
    → (p : Trace) × (slice_get traces i ≡ Some p) × Follows (n + i) plan.steps.items p.entries given r
plan_at n zero (q ∷ plans) (a ∷ answers) (s ∷ rounds) (p ∷ traces) (caller, follows, others) plan given r one two three =
    let same : q ≡ plan = cc in
    let same_answers : a ≡ given = cc in
    let same_rounds : s ≡ r = cc in
    let number : n ≡ n + 0 = omega arith in (
      p,
      refl,
      subst (λ k. Follows k plan.steps.items p.entries given r) number
          (subst (λ k. Follows n plan.steps.items p.entries given k) same_rounds
          (subst (λ xs. Follows n plan.steps.items p.entries xs s) same_answers
          (subst (λ (x : Plan). Follows n x.steps.items p.entries a s) same follows))),
    )
plan_at n (suc i) (q ∷ plans) (a ∷ answers) (s ∷ rounds) (p ∷ traces) (caller, follows, others) plan given r one two three =
    let found = plan_at (suc n) i plans answers rounds traces others plan given r one two three in
    let number : suc n + i ≡ n + suc i = omega arith in
    (found.0, found.1, subst (λ k. Follows k plan.steps.items found.0.entries given r) number found.2)
plan_at n i (q ∷ plans) (a ∷ answers) (s ∷ rounds) [] served plan given r one two three = absurd served
plan_at n i (q ∷ plans) (a ∷ answers) [] traces served plan given r one two three = absurd served
plan_at n i (q ∷ plans) [] rounds traces served plan given r one two three = absurd served
plan_at n i [] answers rounds traces served plan given r one two three = absurd (let bad : ◌≡◌ {A = Option Plan} None (Some plan) = one in cc)

worker_at : (n i : ℕ) (traces : List Trace) → WorkersServed n traces → i < length traces
    → (p : Trace) × (slice_get traces i ≡ Some p) × Every TellsEnd p.entries
worker_at n i [] served inside = absurd (omega (arith, inside))
worker_at n zero (p ∷ traces) (caller, work, others) inside = (p, refl, work)
worker_at n (suc i) (p ∷ traces) (caller, work, others) inside = worker_at (suc n) i traces others (omega (arith, inside))

-- a worker's trace is there, and tells ends of batches alone
pub worker_after : (n i : ℕ) (plans : List Plan) (answers : List (List StepAnswer)) (rounds : List ℕ) (traces : List Trace)
    → AreServed n plans answers rounds traces → length plans ≤ i → i < length traces
    → (p : Trace) × (slice_get traces i ≡ Some p) × Every TellsEnd p.entries
worker_after n i [] [] [] traces served beyond inside = worker_at n i traces served inside
worker_after n zero (plan ∷ plans) (a ∷ answers) (r ∷ rounds) (p ∷ traces) served beyond inside = absurd (omega (arith, beyond))
worker_after n (suc i) (plan ∷ plans) (a ∷ answers) (r ∷ rounds) (p ∷ traces) (caller, follows, others) beyond inside =
    worker_after (suc n) i plans answers rounds traces others (omega (arith, beyond)) (omega (arith, inside))
worker_after n i (plan ∷ plans) (a ∷ answers) (r ∷ rounds) [] served beyond inside = absurd served
worker_after n i (plan ∷ plans) (a ∷ answers) [] traces served beyond inside = absurd served
worker_after n i (plan ∷ plans) [] rounds traces served beyond inside = absurd served
worker_after n i [] (a ∷ answers) rounds traces served beyond inside = absurd served
worker_after n i [] [] (r ∷ rounds) traces served beyond inside = absurd served

-- there are answers and rounds of each plan
pub served_long : (n : ℕ) (plans : List Plan) (answers : List (List StepAnswer)) (rounds : List ℕ) (traces : List Trace)
    → AreServed n plans answers rounds traces → (length answers ≡ length plans) × (length rounds ≡ length plans)
served_long n [] [] [] traces served = (refl, refl)
served_long n (plan ∷ plans) (a ∷ answers) (r ∷ rounds) (p ∷ traces) (caller, follows, others) =
    let rest = served_long (suc n) plans answers rounds traces others in (ap suc rest.0, ap suc rest.1)
served_long n (plan ∷ plans) (a ∷ answers) (r ∷ rounds) [] served = absurd served
served_long n (plan ∷ plans) (a ∷ answers) [] traces served = absurd served
served_long n (plan ∷ plans) [] rounds traces served = absurd served
served_long n [] (a ∷ answers) rounds traces served = absurd served
served_long n [] [] (r ∷ rounds) traces served = absurd served
