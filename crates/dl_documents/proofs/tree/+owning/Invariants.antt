-- What was copied is the data of the items so far, and the rest of them follows.
use Rattle.std.proofs.Common.{◌≡◌, ◌++◌, length}
use Rattle.std.specs.Vec.Iter.{into_iter_items, into_iter_len}
use Rattle.json.specs.Tree.{json_tokens, items_tokens, members_tokens}
use Rattle.json.specs.Value as tree
use Rattle.serde_json.specs.View.{items_view, members_view}
use Rattle.dl_documents.specs.Inside.Trees.{list_data, object_data}
use Rattle.dl_documents.proofs.tree.+owning.Given as goal

abbrev pub decreases-into_value : goal.decreases-into_value
decreases-into_value l = length (json_tokens (tree.value_view l.tree))

abbrev pub decreases-into_list : goal.decreases-into_list
decreases-into_list l = length (items_tokens (tree.items_view l.items.items))

abbrev pub decreases-into_map : goal.decreases-into_map
decreases-into_map l = length (members_tokens (tree.members_view l.members.items))

abbrev pub invariant-into_list-loop-item : goal.invariant-into_list-loop-item
invariant-into_list-loop-item l = record {
  order : l.yielded ++ into_iter_items l.item-iterator ≡ l.fn.items.items;
  so_far : items_view l.list.items ≡ list_data l.yielded;
  count : into_iter_len l.item-iterator ≡ length (into_iter_items l.item-iterator);
}

abbrev pub invariant-into_map-loop-member : goal.invariant-into_map-loop-member
invariant-into_map-loop-member l = record {
  order : l.yielded ++ into_iter_items l.member-iterator ≡ l.fn.members.items;
  so_far : members_view l.map.entries ≡ object_data l.yielded;
  count : into_iter_len l.member-iterator ≡ length (into_iter_items l.member-iterator);
}
