use Rattle.std.proofs.Common.{◌≡◌, map, drop}
use Rattle.dl_desk.specs.Inside.Preparation.{shown_batch}
use Rattle.dl_desk.specs.Inside.TableBook.{AreTouched}
use Rattle.dl_desk.proofs.table_book.cut_each.Given as goal

abbrev pub invariant-loop-number : goal.invariant-loop-number
invariant-loop-number l = AreTouched (drop l.number-index l.touched) l.batches.items × (map shown_batch l.batches.items ≡ map shown_batch l.fn.batches.items)
