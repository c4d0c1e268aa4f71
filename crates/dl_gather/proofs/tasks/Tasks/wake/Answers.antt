use Rattle.std.proofs.Common.{◌≡◌, ◌∙◌, sym, refl, ap, subst, List, arith}
use Rattle.dl_gather.specs.Gathering.{Gathering, each, gathering, settled}
use Rattle.dl_gather.specs.declared.numbers.Numbers.{Numbers}
use Rattle.dl_gather.specs.declared.task.Task.{Task}
use Rattle.dl_gather.specs.declared.task.Turn.TheVariants as turn
use Rattle.dl_gather.proofs.Settling.{nobody_wakes}
use Rattle.dl_gather.proofs.tasks.Tasks.wake.Goals as goal

pub returns-then-self-eq0-clause-woken : goal.returns-then-self-eq0-clause-woken
returns-then-self-eq0-clause-woken c =
    let P : Gathering → Type 0 = λ g. settled g ≡ settled (each turn.Wake g) in
    let g = gathering c.self.inside.policy c.self.inside.all.items c.self.inside.out in
    let waits = ap (λ (n : Numbers). n.waits) c.self.invariant in
    let same = ap (λ (ts : List Task). settled (gathering g.policy ts g.out)) (nobody_wakes g.tasks (omega arith)) in
    c.settle.ensures.settled ∙ subst P c.self.view_is (sym same)
