-- What was put into the map is the data of the members so far, and the rest of them follows.
use Rattle.std.proofs.Common.{◌≡◌, ◌++◌, length}
use Rattle.std.specs.Vec.Iter.{into_iter_items, into_iter_len}
use Rattle.dl_documents.specs.Inside.Trees.{entries_data, object_data}
use Rattle.dl_documents.proofs.member.sorted.Given as goal

abbrev pub invariant-loop-member : goal.invariant-loop-member
invariant-loop-member l = record {
  order : l.yielded ++ into_iter_items l.member-iterator ≡ l.fn.members.items;
  so_far : entries_data l.map.entries ≡ object_data l.yielded;
  count : into_iter_len l.member-iterator ≡ length (into_iter_items l.member-iterator);
}
