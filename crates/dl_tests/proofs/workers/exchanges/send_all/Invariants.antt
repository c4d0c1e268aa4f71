use Rattle.dl_workers.specs.Seats.{IsSenderOf}
use Rattle.dl_tests.proofs.workers.exchanges.send_all.Given as goal

-- the sender stays one of the queue
abbrev pub invariant-loop-turn : goal.invariant-loop-turn
invariant-loop-turn g l = IsSenderOf l.queue l.sender

abbrev pub invariant-loop-turn-2 : goal.invariant-loop-turn-2
invariant-loop-turn-2 g l = IsSenderOf l.queue l.sender
