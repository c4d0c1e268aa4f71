-- The parts so far have ended with the values.
use Rattle.std.proofs.Common.{◌≡◌, length, ◌++◌}
use Rattle.std.specs.Vec.Iter.{into_iter_items, into_iter_len}
use Rattle.dl_terms.proofs.PartAnswers.{AreValues}
use Rattle.dl_terms.proofs.joining.answer_all.Given as goal

abbrev pub invariant-loop-part : goal.invariant-loop-part
invariant-loop-part l = record {
  left : l.fn.parts.items ≡ l.yielded ++ into_iter_items l.part-iterator;
  long : into_iter_len l.part-iterator ≡ length (into_iter_items l.part-iterator);
  values : AreValues l.yielded l.values.items;
}
