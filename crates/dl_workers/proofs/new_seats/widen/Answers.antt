-- The pass stands for all seats, so the rule survives as it stands for one more.
use Rattle.std.proofs.Common.{ap, arith}
use Rattle.dl_workers.specs.declared.rule.Traffic.{Traffic}
use Rattle.dl_workers.proofs.Steps.{widens}
use Rattle.dl_workers.proofs.new_seats.widen.Goals as goal

pub another-none-requires-clause-rule : goal.another-none-requires-clause-rule
another-none-requires-clause-rule c =
    let seats = ap (λ (a : Traffic). a.seats) c.loop.invariant.wide in
    let all = ap (λ (a : Traffic). a.all) c.loop.invariant.wide in
    widens _ _ (omega arith) (omega arith)
