use Rattle.std.proofs.Common.{sym, refl, subst, inl, inr, arith}
use Rattle.dl_gather.specs.Gathering.{IsSettled}
use Rattle.dl_gather.specs.declared.task.Task.TheVariants.{Outside, Runs, Arrived, Sends, Waits, Ready}
use Rattle.dl_gather.proofs.Kept.{stop_settles}
use Rattle.dl_gather.proofs.gathering.Gathering.stop.Goals as goal

pub invariant_of-self : goal.invariant_of-self
invariant_of-self c = subst IsSettled (sym c.stop.ensures) (stop_settles c.self.inside.tasks)
