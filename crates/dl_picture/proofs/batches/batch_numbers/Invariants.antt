-- The numbers are those of the batches so far, and there are no fewer batches.
use Rattle.std.proofs.Common.{◌≤◌}
use Rattle.dl_desk.specs.Events.{atoms}
use Rattle.dl_desk.specs.History.{begun}
use Rattle.dl_history.specs.History.{past}
use Rattle.dl_picture.specs.Numbers.{AreSizes, sizes_of}
use Rattle.dl_picture.proofs.batches.batch_numbers.Given as goal

abbrev pub invariant-loop-number : goal.invariant-loop-number
invariant-loop-number l = record {
  low : l.number ≤ begun (atoms (past l.batches));
  sizes : AreSizes (sizes_of (atoms (past l.batches)) l.number) l.numbers;
}
