-- What is left of a term, as a tree.
use Rattle.std.specs.Prelude.{ℕ, ◌+◌, List, [], ◌∷◌, map, Option, Some, None}
use Rattle.dl_terms.specs.declared.answer.Answer.{Answer}
use Rattle.dl_terms.specs.declared.node.Frame.{Frame}
use Rattle.dl_terms.specs.declared.node.Frame.TheVariants.{Pick, Follow, Each, Over}
use Rattle.dl_terms.specs.declared.node.Node.{Node}
use Rattle.dl_terms.specs.declared.node.Node.TheOpen.{Node-F}
use Rattle.dl_terms.specs.declared.node.Node.TheFolds.{fold-Node}
use Rattle.dl_terms.specs.Tree.{Tree, ended, load, pick, follow, each, all, over, the_item, named, Trees, no_trees, tree}
use Rattle.dl_terms.specs.View.{term_view, trees_of}
use Rattle.dl_terms.specs.declared.node.Join.{Join}
use Rattle.dl_terms.specs.declared.node.Join.TheVariants as way
use Rattle.dl_terms.specs.TermAnswers.{both, Joint, listing, naming}

-- a frame round a tree
abbrev pub in_frame : Frame → Tree → Tree
in_frame (Pick field) t = pick t field
in_frame (Follow field table) t = follow t field table
in_frame (Each field table) t = each t field table
in_frame (Over body) t = over t (term_view body.value)

-- a tree in frames, of which the last is the innermost
abbrev pub framed : List Frame → Tree → Tree
framed [] t = t
framed (f ∷ fs) t = in_frame f (framed fs t)

-- how many frames are round the innermost part of a tree
abbrev pub frames_around : Tree → ℕ
frames_around (ended a) = 0
frames_around (load k) = 0
frames_around (pick t field) = frames_around t + 1
frames_around (follow t field table) = frames_around t + 1
frames_around (each t field table) = frames_around t + 1
frames_around (all ts) = 0
frames_around (over t body) = frames_around t + 1
frames_around the_item = 0
frames_around (named names ts) = 0

abbrev pub joint_of : Join → Joint
joint_of way.List = listing
joint_of (way.Object names) = naming names

-- trees joined to one
abbrev pub joined_tree : Joint → Trees → Tree
joined_tree listing ts = all ts
joined_tree (naming names) ts = named names ts

-- one level, with each part already seen as its tree
abbrev pub node_step : Node-F Tree → Tree
node_step (Node-F.Done a) = ended a
node_step (Node-F.Load k place) = load k
node_step (Node-F.Chain part frames) = framed frames.items part.value
node_step Node-F.Item = the_item
node_step (Node-F.Parts v by) = joined_tree (joint_of by) (trees_of v.items)

abbrev pub node_view : Node → Tree
node_view = fold-Node Tree node_step

abbrev pub nodes_view : List Node → Trees
nodes_view ns = trees_of (map node_view ns)

-- the answer of a tree that has ended
abbrev pub result_of : Tree → Option Answer
result_of (ended a) = Some a
result_of (load k) = None
result_of (pick t field) = None
result_of (follow t field table) = None
result_of (each t field table) = None
result_of (all ts) = None
result_of (over t body) = None
result_of the_item = None
result_of (named names ts) = None

-- the answers of trees that have all ended
abbrev pub results_of : Trees → Option (List Answer)
results_of no_trees = Some []
results_of (tree t ts) = both (result_of t) (results_of ts)
