-- The trees of nodes, form by form.
use Rattle.std.proofs.Common.{◌≡◌, rules}
use Rattle.std.specs.Prelude.{ℕ, Vec, Box}
use Rattle.std.specs.declared.alloc.Global.{Global}
use Rattle.dl_values.specs.Key.{Key}
use Rattle.dl_terms.specs.declared.answer.Answer.{Answer}
use Rattle.dl_terms.specs.declared.node.Frame.{Frame}
use Rattle.dl_terms.specs.declared.node.Join.{Join}
use Rattle.dl_terms.specs.declared.node.Node.{Node, the_lemmas}
use Rattle.dl_terms.specs.declared.node.Node.TheVariants as form
use Rattle.dl_terms.specs.Tree.{ended, load, the_item}
use Rattle.dl_terms.specs.Node.{framed, joint_of, joined_tree, node_view, nodes_view}

pub node_view-Done : (a : Answer) → node_view (form.Done a) ≡ ended a
node_view-Done a = search (rules, the_lemmas)

pub node_view-Load : (k : Key) (place : ℕ) → node_view (form.Load k place) ≡ load k
node_view-Load k place = search (rules, the_lemmas)

pub node_view-Item : node_view form.Item ≡ the_item
node_view-Item = search (rules, the_lemmas)

pub node_view-Parts : (v : Vec Node Global) (by : Join) → node_view (form.Parts v by) ≡ joined_tree (joint_of by) (nodes_view v.items)
node_view-Parts v by = search (rules, the_lemmas)

pub node_view-Chain : (part : Box Node Global) (frames : Vec Frame Global) → node_view (form.Chain part frames) ≡ framed frames.items (node_view part.value)
node_view-Chain part frames = search (rules, the_lemmas)
