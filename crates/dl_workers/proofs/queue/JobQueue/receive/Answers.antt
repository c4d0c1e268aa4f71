-- The pass stands for a seat, so the rule survives a receive.
use Rattle.dl_workers.proofs.Steps.{takes}
use Rattle.dl_workers.proofs.queue.JobQueue.receive.Goals as goal

pub recv_as-requires-clause-rule : goal.recv_as-requires-clause-rule
recv_as-requires-clause-rule g c = (takes _ _ c.loop.invariant.some_seat, λ items views b at. tt)
