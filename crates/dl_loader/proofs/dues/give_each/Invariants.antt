use Rattle.std.proofs.Common.{◌≡◌, ◌+◌, ◌≤◌, length}
use Rattle.dl_history.specs.Journal.{refusals}
use Rattle.dl_loader.specs.Inside.Dues.{AreGiven}
use Rattle.dl_loader.proofs.dues.give_each.Given as goal

abbrev pub invariant-loop-due : goal.invariant-loop-due
invariant-loop-due g l = record {
  can_next : (goal.iterator-loop-due g).can_next l.due-iterator;
  is_finite : (goal.iterator-loop-due g).is_finite l.due-iterator;
  history : l.journal.history ≡ l.fn.journal.history;
  given : AreGiven l.yielded l.fn.journal.cells l.journal.cells;
  refused : refusals l.journal.cells ≡ refusals l.fn.journal.cells + l.refused;
  few : l.refused ≤ length l.yielded;
}
