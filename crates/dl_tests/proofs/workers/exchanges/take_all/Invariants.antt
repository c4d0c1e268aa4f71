use Rattle.dl_workers.specs.Seats.{IsTakerOf}
use Rattle.dl_tests.proofs.workers.exchanges.take_all.Given as goal

abbrev pub invariant-loop : goal.invariant-loop
invariant-loop g l = IsTakerOf l.queue l.taker
