use Rattle.std.proofs.Common.{◌≡◌, None, sym, subst, arith}
use Rattle.std.specs.List.{AllByRecursion}
use Rattle.dl_sqlite.proofs.Steps.{next_of, none_after}
use Rattle.dl_sqlite.proofs.form.check_views.Goals as goal

pub loop-view-preserved : goal.loop-view-preserved
loop-view-preserved c rest =
    let here = next_of c.args.views.now c.loop-view.view-index c.view-item.result (omega arith) c.view-item.is in
    let none : c.view-item.result.foreign ≡ None = c.in_default.is in
    c.loop-view.invariant (subst (AllByRecursion (λ v. v.foreign ≡ None)) (sym here) (none, rest))

pub returns : goal.returns
returns c =
    c.loop-view.invariant (subst (AllByRecursion (λ v. v.foreign ≡ None)) (sym (none_after c.args.views.now c.loop-view.view-index (omega arith))) tt)
