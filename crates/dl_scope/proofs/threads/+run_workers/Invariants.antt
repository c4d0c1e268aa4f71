use Rattle.std.specs.Prelude.{vec_len}
use Rattle.dl_scope.proofs.threads.+run_workers.Given as goal

abbrev pub decreases-run_workers : goal.decreases-run_workers
decreases-run_workers g l = vec_len l.workers
