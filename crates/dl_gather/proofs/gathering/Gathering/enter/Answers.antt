use Rattle.std.proofs.Common.{sym, refl, subst, inl, inr, arith}
use Rattle.dl_gather.specs.Gathering.{IsSettled}
use Rattle.dl_gather.specs.declared.task.Task.TheVariants.{Outside, Runs, Arrived, Sends, Waits, Ready}
use Rattle.dl_gather.proofs.Kept.{change_settles, may_settle}
use Rattle.dl_gather.proofs.gathering.Gathering.enter.Goals as goal

pub invariant_of-self : goal.invariant_of-self
invariant_of-self c =
    subst IsSettled (sym c.change.ensures.changed)
    (change_settles c.args.task Ready c.self.inside.tasks refl refl (inl refl) (may_settle c.self.inside.tasks c.self.invariant))
