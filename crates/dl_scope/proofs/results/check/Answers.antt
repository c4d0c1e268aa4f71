use Rattle.std.proofs.Common.{inl, inr, map}
use Rattle.dl_scope.proofs.PlanFaults.{were_stopped}
use Rattle.dl_scope.proofs.results.check.Goals.{then-any_met-via-then-any_met, then-any_met-via-else-any_met+then-any_gave_up}
use Rattle.dl_scope.proofs.results.check.Goals as goal

pub returns-then-any_met-clause-fault : goal.returns-then-any_met-clause-fault
returns-then-any_met-clause-fault g c =
    were_stopped c.args.plans.now (map (λ run. run.end) c.args.workers.now) c.in_default.ensures
    (elim c.then-any_met.branch [
      | then-any_met-via-then-any_met w ↦ inl w.if-any_met.ensures
      | then-any_met-via-else-any_met+then-any_gave_up w ↦ inr w.if-any_gave_up.ensures
    ])
