-- The numbers so far are turned into the limits so far, and the rest of them follows.
use Rattle.std.proofs.Common.{◌≡◌, ◌++◌, length}
use Rattle.std.specs.Vec.Iter.{into_iter_items, into_iter_len}
use Rattle.dl_documents.specs.Inside.OwnLimits.{AreAsLimits}
use Rattle.dl_documents.proofs.table_limits.as_limits.Given as goal

abbrev pub invariant-loop-own : goal.invariant-loop-own
invariant-loop-own l = record {
  order : l.yielded ++ into_iter_items l.own-iterator ≡ into_iter_items l.initial.own-iterator;
  so_far : AreAsLimits l.yielded l.limits.items;
  count : into_iter_len l.own-iterator ≡ length (into_iter_items l.own-iterator);
}
