use Rattle.std.proofs.Common.{◌∙◌, ap, sym, subst}
use Rattle.dl_gather.specs.Gathering.{Gathering, IsSettled, change}
use Rattle.dl_gather.specs.declared.task.Task.{Task}
use Rattle.dl_gather.proofs.Kept.{may_settle, waits_settle}
use Rattle.dl_gather.proofs.gathering.Gathering.wait_for.Goals as goal

pub invariant_of-self : goal.invariant_of-self
invariant_of-self c =
    let g = c.self.inside.tasks in
    let changed = c.change.ensures.changed ∙ ap (λ (to : Task). change c.args.task to g) c.waiting-to.ensures in
    subst IsSettled (sym changed) (waits_settle c.args.task g (may_settle g c.self.invariant))
