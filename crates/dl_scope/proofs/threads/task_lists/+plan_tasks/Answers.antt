use Rattle.std.proofs.Common.{◌≡◌, ◌∙◌, sym, length, arith}
use Rattle.std.proofs.lemmas.List.{nil_from_length}
use Rattle.dl_scope.proofs.ListLemmas.{map-pushed}
use Rattle.dl_scope.proofs.threads.task_lists.+plan_tasks.Goals as goal

-- there is no plan, and so no pass and no sender
pub returns-in_default : goal.returns-in_default
returns-in_default g t c =
    let none : length c.args.plans.items ≡ 0 = omega (arith, (rw c.in_default.is at c.pop.ensures.cases).0) in
    record {
      passes = rw c.new.ensures.items (sym (nil_from_length c.args.passes.items (c.requires.passes ∙ none)));
      senders = rw c.new.ensures.items (sym (nil_from_length c.args.senders.items (c.requires.senders ∙ none)));
      plans = rw c.new.ensures.items (sym (nil_from_length c.args.plans.items none));
    }

pub returns : goal.returns
returns g t c =
    let tasks = c.in_ok-tasks.tasks.items in
    let all = c.push.new.self.items in
    let pushed = c.in_ok-push.ensures.items in
    record {
      passes = map-pushed (λ task. task.pass) tasks all _ c.pop-2.new.self.items _ pushed c.in_ok-tasks.ensures.passes c.in-Some-pop.ensures.items;
      senders = map-pushed (λ task. task.sender) tasks all _ c.pop-3.new.self.items _ pushed c.in_ok-tasks.ensures.senders c.in-Some-pop-2.ensures.items;
      plans = map-pushed (λ task. task.plan) tasks all _ c.pop.new.self.items _ pushed c.in_ok-tasks.ensures.plans c.in-Some.ensures.items;
    }
