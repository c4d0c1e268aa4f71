-- The pass that gathers stands for a seat, so the rule survives the join.
use Rattle.std.proofs.Common.{ap, arith}
use Rattle.dl_workers.specs.declared.rule.Traffic.{Traffic}
use Rattle.dl_workers.proofs.Steps.{gathers}
use Rattle.dl_workers.proofs.queue.JobQueue.gather_senders.Goals as goal

pub absorb-requires-clause-rule : goal.absorb-requires-clause-rule
absorb-requires-clause-rule c =
    let seats = ap (λ (a : Traffic). a.seats) c.loop-sender.invariant.gathered in
    gathers _ _ _ _ (omega arith)
