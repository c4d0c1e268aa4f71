-- The loads so far, and those of the plans left, are the loads of all plans.
use Rattle.std.proofs.Common.{◌≡◌, ◌+◌, drop}
use Rattle.dl_picture.specs.TermLoads.{loads_asked, loads_from, trees_of_terms}
use Rattle.dl_picture.proofs.asked.loads_asked.Given as goal

abbrev pub invariant-loop-terms : goal.invariant-loop-terms
invariant-loop-terms l =
    l.loads + loads_from l.history.events l.caller (trees_of_terms (drop l.terms-index l.plans)) ≡ loads_asked l.history.events (trees_of_terms l.plans)
