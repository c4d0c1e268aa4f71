-- The endings so far are the values.
use Rattle.std.proofs.Common.{◌≡◌, length, map, ◌++◌}
use Rattle.std.specs.Vec.Iter.{into_iter_items, into_iter_len}
use Rattle.dl_picture.specs.Seeking.{value_ending}
use Rattle.dl_picture.proofs.seeking.gathered.Given as goal

abbrev pub invariant-loop-ending : goal.invariant-loop-ending
invariant-loop-ending l = record {
  left : l.fn.endings.items ≡ l.yielded ++ into_iter_items l.ending-iterator;
  long : into_iter_len l.ending-iterator ≡ length (into_iter_items l.ending-iterator);
  values : l.yielded ≡ map value_ending l.values.items;
}
