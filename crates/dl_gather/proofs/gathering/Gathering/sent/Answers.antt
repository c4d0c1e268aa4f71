use Rattle.std.proofs.Common.{sym, refl, subst, inl, inr, arith}
use Rattle.dl_gather.specs.Gathering.{IsSettled}
use Rattle.dl_gather.specs.declared.task.Task.TheVariants.{Outside, Runs, Arrived, Sends, Waits, Ready}
use Rattle.dl_gather.proofs.Kept.{MaySettle, change_settles, may_settle, may_settle_out}
use Rattle.dl_gather.proofs.gathering.Gathering.sent.Goals as goal

pub invariant_of-self : goal.invariant_of-self
invariant_of-self c =
    let more = may_settle_out c.self.inside.tasks c.saturating_add-out.result (λ h. omega arith) (may_settle c.self.inside.tasks c.self.invariant) in
    subst IsSettled (sym c.change.ensures.changed)
    (change_settles c.args.task Ready c.set_out.new.self refl refl (inl refl) (subst MaySettle (sym c.set_out.ensures) more))
