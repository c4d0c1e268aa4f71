use Rattle.std.proofs.Common.{◌≡◌, ◌∙◌, sym, refl, ap, arith, ℕ, subst, false}
use Rattle.dl_gather.specs.Gathering.{Gathering, arrived, gathering, is_held, ready, running, sending, settled}
use Rattle.dl_gather.specs.declared.numbers.Numbers.{Numbers}
use Rattle.dl_gather.proofs.Settling.{settled_none}
use Rattle.dl_gather.proofs.tasks.Tasks.settle.Goals as goal

pub returns-then-arrived-eq0-clause-settled : goal.returns-then-arrived-eq0-clause-settled
returns-then-arrived-eq0-clause-settled c =
    let P : Gathering → Type 0 = λ g. g ≡ settled g in
    let g = gathering c.self.inside.policy c.self.inside.all.items c.self.inside.out in
    let sends = ap (λ (n : Numbers). n.sends) c.self.invariant in
    let ready = ap (λ (n : Numbers). n.ready) c.self.invariant in
    let runs = ap (λ (n : Numbers). n.runs) c.self.invariant in
    let arrived = ap (λ (n : Numbers). n.arrived) c.self.invariant in
    let held : is_held g ≡ false = ap is_held c.self.view_is ∙ (sym c.is_held.ensures ∙ c.if-is_held.false) in
    subst P c.self.view_is (sym (settled_none g (omega arith) (omega arith) (omega arith) held (omega arith)))
