-- The views pass if the rest do.
use Rattle.std.proofs.Common.{◌≡◌, None, drop}
use Rattle.std.specs.List.{AllByRecursion}
use Rattle.dl_sqlite.proofs.form.check_views.Given as goal

abbrev pub invariant-loop-view : goal.invariant-loop-view
invariant-loop-view l = AllByRecursion (λ v. v.foreign ≡ None) (drop l.view-index l.views) → AllByRecursion (λ v. v.foreign ≡ None) l.views
