use Rattle.std.specs.Prelude.{vec_len}
use Rattle.dl_scope.proofs.threads.task_lists.+worker_tasks.Given as goal

abbrev pub decreases-worker_tasks : goal.decreases-worker_tasks
decreases-worker_tasks g l = vec_len l.takers
