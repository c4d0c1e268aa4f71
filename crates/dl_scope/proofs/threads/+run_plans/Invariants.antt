use Rattle.std.specs.Prelude.{vec_len}
use Rattle.dl_scope.proofs.threads.+run_plans.Given as goal

abbrev pub decreases-run_plans : goal.decreases-run_plans
decreases-run_plans g l = vec_len l.plans
