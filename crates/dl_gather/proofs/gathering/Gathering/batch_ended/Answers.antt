use Rattle.std.proofs.Common.{sym, refl, subst, inl, inr, arith}
use Rattle.dl_gather.specs.Gathering.{Gathering, IsSettled, each, settled, with_out}
use Rattle.dl_gather.specs.declared.task.Turn.TheVariants as turn
use Rattle.dl_gather.specs.declared.task.Task.TheVariants.{Outside, Runs, Arrived, Sends, Waits, Ready}
use Rattle.dl_gather.proofs.Kept.{MaySettle, settles, woken_settles, may_settle}
use Rattle.dl_gather.proofs.gathering.Gathering.batch_ended.Goals as goal

pub invariant_of-self : goal.invariant_of-self
invariant_of-self c =
    let early = (may_settle c.self.inside.tasks c.self.invariant).nobody_is_early in
    let P : Gathering → Type 0 = λ g. IsSettled (settled (each turn.Wake g)) in
    subst IsSettled (sym c.wake.ensures.woken) (subst P (sym c.set_out.ensures) (woken_settles (with_out c.saturating_sub-out.result c.self.inside.tasks) early))

pub invariant_of-self-2 : goal.invariant_of-self-2
invariant_of-self-2 c =
    let early = (may_settle c.self.inside.tasks c.self.invariant).nobody_is_early in
    let P : Gathering → Type 0 = λ g. IsSettled (settled g) in
    let may : MaySettle (with_out c.saturating_sub-out.result c.self.inside.tasks) = record { nobody_is_early = early; waiting_sleep = λ _. omega arith } in
    subst IsSettled (sym c.settle.ensures.settled) (subst P (sym c.set_out.ensures) (settles (with_out c.saturating_sub-out.result c.self.inside.tasks) may))
