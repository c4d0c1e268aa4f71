use Rattle.std.proofs.Common.{◌≡◌, ◌++◌, map, take, drop}
use Rattle.dl_gather.specs.Tasks.{turned}
use Rattle.dl_gather.proofs.tasks.turn_each.Given as goal

abbrev pub invariant-loop-task : goal.invariant-loop-task
invariant-loop-task l = l.tasks ≡ map (turned l.turn) (take l.task-index l.fn.tasks) ++ drop l.task-index l.fn.tasks
