-- The seat stays one of the queue.
use Rattle.dl_workers.specs.Seats.{IsSenderOf}
use Rattle.example_loaders.proofs.worker.call_all.Given as goal

abbrev pub invariant-loop-pass : goal.invariant-loop-pass
invariant-loop-pass g l = IsSenderOf l.queue l.sender
