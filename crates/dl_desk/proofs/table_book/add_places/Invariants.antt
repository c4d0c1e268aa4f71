use Rattle.std.proofs.Common.{◌≡◌, ◌≤◌, ℕ, List, length}
use Rattle.dl_desk.specs.Inside.TableMap.{told_in}
use Rattle.dl_desk.proofs.table_book.add_places.Given as goal

abbrev pub invariant-loop-place : goal.invariant-loop-place
invariant-loop-place l = record {
  long : l._place ≤ length l.places.items;
  told : (q : List ℕ) → told_in l.places.items q ≡ told_in l.fn.places.items q;
}
