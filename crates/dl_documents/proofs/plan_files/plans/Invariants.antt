-- The lists so far are the trees of the plans' steps, and the rest of them follows.
use Rattle.std.proofs.Common.{◌≡◌, ◌++◌, length}
use Rattle.std.specs.Vec.Iter.{into_iter_items, into_iter_len}
use Rattle.dl_documents.proofs.Readings.{SpellPlans}
use Rattle.dl_documents.proofs.plan_files.plans.Given as goal

abbrev pub invariant-loop-list : goal.invariant-loop-list
invariant-loop-list l = record {
  order : l.yielded ++ into_iter_items l.list-iterator ≡ l.fn.lists.items;
  so_far : SpellPlans l.forms l.yielded l.plans.items;
  count : into_iter_len l.list-iterator ≡ length (into_iter_items l.list-iterator);
}
