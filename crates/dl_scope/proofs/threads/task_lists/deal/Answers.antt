use Rattle.std.proofs.Common.{◌≡◌, ◌∙◌, ◌++◌, [], ap, sym, length, length-append, map, arith}
use Rattle.std.specs.Prelude.{Some}
use Rattle.std.proofs.lemmas.List.{length-map}
use Rattle.std.proofs.lemmas.List.Elements.{All-pop}
use Rattle.dl_workers.specs.Seats.{IsSenderOf, IsTakerOf, sent_jobs, taken_jobs}
use Rattle.dl_scope.proofs.ListLemmas.{All-from_map}
use Rattle.dl_scope.proofs.threads.task_lists.deal.Goals as goal

-- the passes that are left are those of the plans
pub plan_tasks-requires-clause-passes : goal.plan_tasks-requires-clause-passes
plan_tasks-requires-clause-passes g c =
    let workers = c.in_ok-workers.workers.items in
    let own = map (λ task. task.pass) workers in
    let all = ap length c.in_ok-workers.ensures.passes ∙ length-append _ own in
    let long = length-map workers (λ task. task.pass) in
    let long2 = length-map workers (λ task. task.taker) in
    let same = ap length c.in_ok-workers.ensures.takers in
    omega (arith, all, long, long2, same, c.requires.passes)

pub returns : goal.returns
returns g c =
    let queue = c.args.server.now.queue.now in
    let plans = c.in_ok-plans.plans.items in
    let workers = c.in_ok-workers.workers.items in
    let left = c.pop.new.self.items in
    let senders = c.args.senders.items in
    let own = c.in-Some.own in
    let popped = c.in-Some.ensures.items in
    let long = length-map plans (λ task. task.plan) in
    let long2 = length-map workers (λ task. task.taker) in
    let same = ap length c.in_ok-plans.ensures.plans in
    let same2 = ap length c.in_ok-workers.ensures.takers in
    let seats = c.requires.seats in
    let takers_are = c.in_ok-workers.ensures.takers in
    let of_queue = All-pop (IsSenderOf queue) senders left (Some own) popped seats.senders_of in
    let unused = All-pop (λ s. sent_jobs s ≡ []) senders left (Some own) popped c.requires.none_sent in
    record {
      dealt = record {
        passes_are = ap (λ passes. passes ++ map (λ task. task.pass) workers) c.in_ok-plans.ensures.passes ∙ sym c.in_ok-workers.ensures.passes;
        plans_are = c.in_ok-plans.ensures.plans;
        senders_of = All-from_map (IsSenderOf queue) (λ task. task.sender) plans left c.in_ok-plans.ensures.senders of_queue.0;
        takers_of = All-from_map (IsTakerOf queue) (λ task. task.taker) workers c.args.takers.items takers_are seats.takers_of;
        own_is = of_queue.1;
        none_sent = All-from_map (λ s. sent_jobs s ≡ []) (λ task. task.sender) plans left c.in_ok-plans.ensures.senders unused.0;
        none_taken = All-from_map (λ t. taken_jobs t ≡ []) (λ task. task.taker) workers c.args.takers.items takers_are c.requires.none_taken;
        own_unused = unused.1;
        all_senders = omega (arith, long, same, c.requires.senders, seats.all_senders);
        all_takers = omega (arith, long2, same2, seats.all_takers);
      };
    }
