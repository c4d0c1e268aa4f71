-- The frames so far round what is left are the term. The nodes are those of the parts so far. A part is no higher than its list.
use Rattle.std.proofs.Common.{◌≡◌, ◌+◌, ◌*◌, ◌++◌, map}
use Rattle.std.specs.Vec.Iter.{into_iter_items}
use Rattle.dl_terms.specs.Tree.{height_of, height_of_all}
use Rattle.dl_terms.specs.View.{term_view, terms_view}
use Rattle.dl_terms.specs.Node.{framed, node_view}
use Rattle.dl_terms.proofs.node.+making.Given as goal

abbrev pub invariant-unexplored-loop-term : goal.invariant-unexplored-loop-term
invariant-unexplored-loop-term l = framed l.frames.items (term_view l.term) ≡ term_view l.fn.term

abbrev pub invariant-unexplored_all-loop-part : goal.invariant-unexplored_all-loop-part
invariant-unexplored_all-loop-part l = record {
  left : l.fn.parts.items ≡ l.yielded ++ into_iter_items l.part-iterator;
  made : map node_view l.nodes.items ≡ map term_view l.yielded;
}

abbrev pub decreases-unexplored : goal.decreases-unexplored
decreases-unexplored l = 2 * height_of (term_view l.term)

abbrev pub decreases-unexplored_all : goal.decreases-unexplored_all
decreases-unexplored_all l = 2 * height_of_all (terms_view l.parts.items) + 1
