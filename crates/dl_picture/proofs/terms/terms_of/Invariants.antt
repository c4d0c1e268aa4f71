-- The copies so far are those of the plans so far.
use Rattle.std.proofs.Common.{◌≡◌, map, take}
use Rattle.dl_picture.specs.TermLoads.{plan_terms, trees_of_terms}
use Rattle.dl_picture.proofs.terms.terms_of.Given as goal

abbrev pub invariant-loop-plan : goal.invariant-loop-plan
invariant-loop-plan l = trees_of_terms l.copies.items ≡ map plan_terms (take l.plan-index l.plans)
