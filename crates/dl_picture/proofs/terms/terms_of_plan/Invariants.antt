-- The copies so far are those of the steps so far.
use Rattle.std.proofs.Common.{◌≡◌, map, take}
use Rattle.std.specs.Prelude.{flat_map}
use Rattle.dl_terms.specs.View.{term_view}
use Rattle.dl_picture.specs.TermLoads.{step_terms}
use Rattle.dl_picture.proofs.terms.terms_of_plan.Given as goal

abbrev pub invariant-loop-step : goal.invariant-loop-step
invariant-loop-step l = map term_view l.copies.items ≡ flat_map step_terms (take l.step-index l.step-items)
