-- The pass stands for a seat, so the rule survives a send.
use Rattle.dl_workers.proofs.Steps.{sends}
use Rattle.dl_workers.proofs.queue.JobQueue.put.Goals as goal

pub send_as-requires-clause-rule : goal.send_as-requires-clause-rule
send_as-requires-clause-rule g c = (sends _ _ _ _ c.requires.some_seat, λ items views b at. tt)
