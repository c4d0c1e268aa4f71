-- The term goes on over the rounds left as over all rounds.
use Rattle.std.proofs.Common.{◌≡◌, [], drop, map}
use Rattle.dl_terms.specs.View.{term_view}
use Rattle.dl_picture.specs.FaultPath.{cells_in}
use Rattle.dl_picture.specs.TermLoads.{loads_in, rounds_after}
use Rattle.dl_picture.proofs.origins.read_rounds.Given as goal

abbrev pub invariant-loop-place : goal.invariant-loop-place
invariant-loop-place l = record {
  cells : cells_in l.history.events (term_view l.term) l.cells.entries (map (λ e. e.now) (drop l.place l.rounds))
      ≡ cells_in l.history.events (term_view l.term) [] (map (λ e. e.now) l.rounds);
  loads : loads_in l.history.events (term_view l.term) l.cells.entries (map (λ e. e.now) (drop l.place l.rounds))
      ≡ loads_in l.history.events (term_view l.term) [] (map (λ e. e.now) l.rounds);
  left : rounds_after l.history.events (term_view l.term) l.cells.entries (map (λ e. e.now) (drop l.place l.rounds))
      ≡ rounds_after l.history.events (term_view l.term) [] (map (λ e. e.now) l.rounds);
}
