use Rattle.dl_workers.specs.Seats.{IsSenderOf}
use Rattle.dl_tests.proofs.workers.work.send.Given as goal

abbrev pub invariant-loop-job : goal.invariant-loop-job
invariant-loop-job g l = IsSenderOf l.queue l.sender
