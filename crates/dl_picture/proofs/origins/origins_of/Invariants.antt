-- The origins so far, and those of the terms left over the rounds left, are the origins of all terms.
use Rattle.std.proofs.Common.{◌≡◌, ◌≤◌, ◌++◌, List, Option, drop, length, map, vec_capacity}
use Rattle.dl_terms.specs.View.{term_view}
use Rattle.dl_picture.specs.FaultPath.{HaveOrigins}
use Rattle.dl_picture.specs.declared.origin.Origin.{Origin}
use Rattle.dl_picture.proofs.origins.origins_of.Given as goal

abbrev pub invariant-loop-term : goal.invariant-loop-term
invariant-loop-term l = record {
  within : l.passed ≤ length l.rounds;
  found : (rest : List (Option Origin)) → HaveOrigins l.history.events (map term_view (drop l.term-index l.terms)) (map (λ e. e.now) (drop l.passed l.rounds)) rest
      → HaveOrigins l.history.events (map term_view l.terms) (map (λ e. e.now) l.rounds) (l.origins.items ++ rest);
  count : length l.origins.items ≡ l.term-index;
  room : length l.terms ≤ vec_capacity l.origins;
}
