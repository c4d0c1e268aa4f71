use Rattle.std.proofs.Common.{◌≡◌, ◌+◌, ◌≤◌, [], ◌∷◌, ◌++◌}
use Rattle.std.specs.List.{repeat}
use Rattle.dl_history.specs.Journal.{waiting}
use Rattle.dl_history.proofs.journal.Journal.begin_cells.Given as goal

abbrev pub invariant-loop-more : goal.invariant-loop-more
invariant-loop-more g l = record {
  history : l.self.history ≡ l.fn.self.history;
  cells : l.self.cells ≡ l.fn.self.cells ++ repeat l.more (waiting ∷ []);
  events_room : l.self.spare ≡ l.fn.self.spare;
  room : l.cells ≤ l.self.cells_spare + l.more;
}
