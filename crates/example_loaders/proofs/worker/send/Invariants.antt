-- The seat stays one of the queue.
use Rattle.dl_workers.specs.Seats.{IsSenderOf}
use Rattle.example_loaders.proofs.worker.send.Given as goal

abbrev pub invariant-loop-job : goal.invariant-loop-job
invariant-loop-job g l = IsSenderOf l.queue l.sender
