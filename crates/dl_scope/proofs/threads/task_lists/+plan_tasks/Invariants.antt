use Rattle.std.specs.Prelude.{vec_len}
use Rattle.dl_scope.proofs.threads.task_lists.+plan_tasks.Given as goal

abbrev pub decreases-plan_tasks : goal.decreases-plan_tasks
decreases-plan_tasks g l = vec_len l.plans
