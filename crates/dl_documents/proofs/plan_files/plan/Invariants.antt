-- The items so far are the trees of the steps, and the rest of them follows.
use Rattle.std.proofs.Common.{◌≡◌, ◌++◌, length}
use Rattle.std.specs.Vec.Iter.{into_iter_items, into_iter_len}
use Rattle.dl_documents.proofs.Readings.{SpellSteps}
use Rattle.dl_documents.proofs.plan_files.plan.Given as goal

abbrev pub invariant-loop-item : goal.invariant-loop-item
invariant-loop-item l = record {
  order : l.yielded ++ into_iter_items l.item-iterator ≡ l.fn.items.items;
  so_far : SpellSteps l.forms l.yielded l.steps.items;
  count : into_iter_len l.item-iterator ≡ length (into_iter_items l.item-iterator);
}
