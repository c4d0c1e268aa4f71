-- The terms that were read, before those of the rest, are those of the list. Each call looks at a lower tree, or goes on with the same.
use Rattle.std.proofs.Common.{◌≡◌, ◌≤◌, ◌+◌, ◌*◌, ◌++◌, length, map, option_map}
use Rattle.std.specs.Vec.Iter.{into_iter_items, into_iter_len}
use Rattle.serde_json.specs.Data.{depth, items_depth}
use Rattle.dl_terms.specs.View.{term_view}
use Rattle.dl_documents.specs.Inside.Trees.{tree_data, list_data}
use Rattle.dl_documents.specs.TermReading.{together, parts_of}
use Rattle.dl_documents.proofs.terms.+reading.Given as goal

abbrev pub decreases-read_term : goal.decreases-read_term
decreases-read_term l = 4 * depth (tree_data l.tree)

abbrev pub decreases-named : goal.decreases-named
decreases-named l = 4 * depth (tree_data l.argument) + 3

abbrev pub decreases-pick : goal.decreases-pick
decreases-pick l = 4 * depth (tree_data l.argument) + 2

abbrev pub decreases-follow : goal.decreases-follow
decreases-follow l = 4 * depth (tree_data l.argument) + 2

abbrev pub decreases-each : goal.decreases-each
decreases-each l = 4 * depth (tree_data l.argument) + 2

abbrev pub decreases-all : goal.decreases-all
decreases-all l = 4 * depth (tree_data l.argument) + 2

abbrev pub decreases-over : goal.decreases-over
decreases-over l = 4 * depth (tree_data l.argument) + 2

abbrev pub decreases-object : goal.decreases-object
decreases-object l = 4 * depth (tree_data l.argument) + 2

abbrev pub decreases-read_parts : goal.decreases-read_parts
decreases-read_parts l = 4 * items_depth (list_data l.trees.items) + 1

abbrev pub decreases-read_part : goal.decreases-read_part
decreases-read_part l = 4 * depth (tree_data l.tree) + 1

abbrev pub invariant-read_parts-loop-tree : goal.invariant-read_parts-loop-tree
invariant-read_parts-loop-tree l = record {
  read : option_map (λ ts. map term_view l.parts.items ++ ts) (together (parts_of (list_data (into_iter_items l.tree-iterator))))
      ≡ together (parts_of (list_data (into_iter_items l.initial.tree-iterator)));
  low : items_depth (list_data (into_iter_items l.tree-iterator)) ≤ items_depth (list_data (into_iter_items l.initial.tree-iterator));
  count : into_iter_len l.tree-iterator ≡ length (into_iter_items l.tree-iterator);
}
