use Rattle.std.proofs.Common.{◌≡◌, map}
use Rattle.dl_desk.specs.Inside.Preparation.{shown_batch, Same}
use Rattle.dl_desk.proofs.memo_and_batches.cut.Given as goal

abbrev pub invariant-loop-number : goal.invariant-loop-number
invariant-loop-number l = Same l.number l.to l.batches.items × (map shown_batch l.batches.items ≡ map shown_batch l.fn.batches.items)
