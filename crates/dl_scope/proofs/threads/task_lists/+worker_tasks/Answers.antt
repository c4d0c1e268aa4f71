use Rattle.dl_scope.proofs.ListLemmas.{map-append_push, map-pushed}
use Rattle.dl_scope.proofs.threads.task_lists.+worker_tasks.Goals as goal

pub returns : goal.returns
returns g t c =
    let tasks = c.in_ok-tasks.tasks.items in
    let all = c.push.new.self.items in
    let pushed = c.in_ok-push.ensures.items in
    record {
      passes = rw pushed (map-append_push (λ task. task.pass) _ _ _ tasks _ c.in_ok-tasks.ensures.passes c.in-Some-pop.ensures.items);
      takers = map-pushed (λ task. task.taker) tasks all _ c.pop.new.self.items _ pushed c.in_ok-tasks.ensures.takers c.in-Some.ensures.items;
    }
