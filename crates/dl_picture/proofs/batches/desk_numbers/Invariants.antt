-- The numbers are those of the batches so far of each history that the desk stands for, which has no fewer batches.
use Rattle.std.proofs.Common.{List, ◌≤◌}
use Rattle.dl_desk.specs.BatchBook.{StandsFor}
use Rattle.dl_desk.specs.History.{Atom, begun}
use Rattle.dl_picture.specs.Numbers.{AreSizes, sizes_of}
use Rattle.dl_picture.proofs.batches.desk_numbers.Given as goal

abbrev pub invariant-loop-number : goal.invariant-loop-number
invariant-loop-number l = (history : List Atom) → StandsFor l.desk.book history → (l.number ≤ begun history) × AreSizes (sizes_of history l.number) l.numbers
