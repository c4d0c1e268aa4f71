-- The loads so far, and those of the terms left over the rounds left, are the loads of all terms.
use Rattle.std.proofs.Common.{◌≡◌, ◌+◌, ◌≤◌, drop, length, map}
use Rattle.dl_terms.specs.View.{term_view}
use Rattle.dl_picture.specs.TermLoads.{terms_loads}
use Rattle.dl_picture.proofs.asked.terms_loads.Given as goal

abbrev pub invariant-loop-term : goal.invariant-loop-term
invariant-loop-term l = record {
  within : l.passed ≤ length l.rounds;
  counted : l.loads + terms_loads l.history.events (map term_view (drop l.term-index l.terms)) (map (λ e. e.now) (drop l.passed l.rounds))
      ≡ terms_loads l.history.events (map term_view l.terms) (map (λ e. e.now) l.rounds);
}
