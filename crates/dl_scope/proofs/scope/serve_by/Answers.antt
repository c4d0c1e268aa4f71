use Rattle.std.proofs.Common.{◌≡◌, ◌∙◌, ◌+◌, [], ap, sym, subst, List, length, map, arith}
use Rattle.std.proofs.lemmas.List.{length-map}
use Rattle.std.proofs.lemmas.List.Elements.{recursion_from_All}
use Rattle.std.proofs.lemmas.Slice.Zip.{AllZip-long}
use Rattle.dl_workers.specs.Seats.{sent_jobs, taken_jobs}
use Rattle.dl_scope.specs.Inside.Results.{IsDone, fault_of}
use Rattle.dl_scope.specs.Inside.ThreadRuns.{IsPlanRun}
use Rattle.dl_scope.specs.Inside.ServedPlans.{AreServed}
use Rattle.dl_scope.proofs.TallyOfPasses.{all_counted, fresh_after, plans_count, workers_count}
use Rattle.dl_scope.proofs.PassPlaces.{all_served, parts_of}
use Rattle.dl_scope.proofs.LateRefusals.{are_ends, results_refused}
use Rattle.dl_scope.proofs.Seats.{fresh_long, seats_back}
use Rattle.dl_scope.proofs.scope.serve_by.Goals as goal

pub deal-requires-clause-passes : goal.deal-requires-clause-passes
deal-requires-clause-passes g c =
    let long = length-map c.args.passes.items (λ p. p.trace) in
    let are = ap length c.requires.passes in
    let fresh = fresh_long 0 g.L.LoaderName.service.callers in
    omega (arith, long, are, fresh, c.requires.callers, c.in-Ok.ensures.takers)

pub results_of-requires : goal.results_of-requires
results_of-requires g c =
    let dealt = c.in_ok-plans.ensures.dealt in
    let given = c.in_ok-plans.field-0.plans.items in
    let kept = AllZip-long (IsPlanRun c.in-Ok.made.0 g.L.LoaderName.service) given c.in_ok-runs.runs.plans.items c.in_ok-runs.ensures.plans in
    let tasks = length-map given (λ task. task.plan) in
    let plans = ap length dealt.plans_are in
    record { few = omega (arith, kept, tasks, plans, c.requires.plans.most) }

pub returns-in-Err-results_of-clause-refused : goal.returns-in-Err-results_of-clause-refused
returns-in-Err-results_of-clause-refused g c =
    let dealt = c.in_ok-plans.ensures.dealt in
    let given = c.in_ok-plans.field-0 in
    let ran = c.in_ok-runs.ensures in
    let runs = c.in_ok-runs.runs in
    let service = g.L.LoaderName.service in
    let fresh = ap parts_of dealt.passes_are ∙ c.requires.passes in
    let workers : length given.workers.items ≡ c.args.setup.now.workers =
    omega (arith, dealt.all_takers, c.in-Ok.ensures.seats.all_takers, c.in-Ok.ensures.takers) in
    results_refused service c.args.setup.now c.args.plans.items (map fault_of runs.plans.items) (map (λ run. run.end) runs.workers.items)
    c.in-Err-results_of.fault
    (record { plans_are = c.requires.plans; workers_are = c.requires.workers; capacity = c.in-Ok.ensures.accepted.0 })
    (are_ends c.in-Ok.made.0 service service.callers c.args.setup.now.workers c.args.plans.items given.plans.items runs.plans.items given.workers.items
    runs.workers.items ran.plans ran.workers fresh dealt.plans_are workers)
    c.in-Err-results_of.ensures.fault

pub finish-requires : goal.finish-requires
finish-requires g c =
    let dealt = c.in_ok-plans.ensures.dealt in
    let given = c.in_ok-plans.field-0 in
    let ran = c.in_ok-runs.ensures in
    let results = c.in-Ok-results_of.results in
    let all = c.in-Ok-results_of.ensures.results in
    seats_back c.in-Ok.made.0 g.L.LoaderName.service given.plans.items c.in_ok-runs.runs.plans.items given.workers.items c.in_ok-runs.runs.workers.items
    c.in_ok-runs.runs.own results.senders.items results.takers.items ran.plans ran.workers ran.own.0 dealt.all_senders dealt.all_takers all.senders all.takers

pub returns-clause-served : goal.returns-clause-served
returns-clause-served g c =
    let dealt = c.in_ok-plans.ensures.dealt in
    let given = c.in_ok-plans.field-0 in
    let ran = c.in_ok-runs.ensures in
    let all = c.in-Ok-results_of.ensures.results in
    let field = c.in-Ok-results_of.results in
    let fresh = ap parts_of dealt.passes_are ∙ c.requires.passes in
    let served = all_served c.in-Ok.made.0 g.L.LoaderName.service 0 g.L.LoaderName.service.callers given.plans.items c.in_ok-runs.runs.plans.items
    (map (λ a. a.items) field.answers.items) field.rounds.items given.workers.items c.in_ok-runs.runs.workers.items ran.plans all.gave ran.workers fresh in
    rw (c.finish.ensures.answers, c.finish.ensures.rounds, c.finish.ensures.passes)
    (subst (λ plans. AreServed 0 plans (map (λ a. a.items) field.answers.items) field.rounds.items (parts_of field.passes.items)) dealt.plans_are
    (subst (λ (ps : List _). AreServed 0 (map (λ task. task.plan) given.plans.items) (map (λ a. a.items) field.answers.items) field.rounds.items (parts_of ps))
    (sym all.passes) served))

pub returns-clause-counted : goal.returns-clause-counted
returns-clause-counted g c =
    let dealt = c.in_ok-plans.ensures.dealt in
    let given = c.in_ok-plans.field-0 in
    let ran = c.in_ok-runs.ensures in
    let runs = c.in_ok-runs.runs in
    let all = c.in-Ok-results_of.ensures.results in
    let field = c.in-Ok-results_of.results in
    let service = g.L.LoaderName.service in
    let callers = service.callers in
    let plans = length c.args.plans.items in
    let seats = map (λ task. task.pass) given.plans.items in
    let worker_seats = map (λ task. task.pass) given.workers.items in
    let fresh = ap parts_of dealt.passes_are ∙ c.requires.passes in
    let long = length-map given.plans.items (λ task. task.plan) in
    let long2 = length-map given.plans.items (λ task. task.pass) in
    let same = ap length dealt.plans_are in
    let after = fresh_after 0 callers seats worker_seats fresh in
    let none_sent = recursion_from_All (λ task. sent_jobs task.sender ≡ []) given.plans.items dealt.none_sent in
    let none_taken = recursion_from_All (λ task. taken_jobs task.taker ≡ []) given.workers.items dealt.none_taken in
    let done = recursion_from_All IsDone runs.workers.items c.in-Ok-results_of.ensures.done in
    rw c.finish.ensures.passes
    (all_counted c.in-Ok.made.0 service plans runs.plans.items runs.workers.items runs.own field.senders.items field.takers.items field.passes.items
    c.finish.result.tally
    (plans_count c.in-Ok.made.0 service plans 0 callers given.plans.items runs.plans.items (map (λ a. a.items) field.answers.items) field.rounds.items
    worker_seats ran.plans all.gave none_sent fresh (omega (arith, long, same)))
    (workers_count c.in-Ok.made.0 service plans (0 + length seats) after.0 given.workers.items runs.workers.items ran.workers done none_taken after.1
    (omega (arith, long, long2, same)))
    (ran.own.1 ∙ dealt.own_unused) all.senders all.takers all.passes c.finish.ensures.balance c.finish.ensures.sum)
