-- What a term is: its nine forms, with an answer in the place of a value, and its depth and height.
use Rattle.std.specs.Prelude.{ℕ, ◌+◌, max, List}
use Rattle.serde_json.specs.Data.{Data, Items, no_items, item}
use Rattle.dl_values.specs.Key.{Key}
use Rattle.dl_terms.specs.declared.answer.Answer.{Answer}
use Rattle.dl_terms.specs.declared.answer.Answer.TheVariants.{Value}

-- the name of a field, a table or a member
abbrev pub Name : Type 0
Name = List ℕ

mutual
  pub data Tree : Type 0 where
    ended : Answer → Tree
    load : Key → Tree
    pick : Tree → Name → Tree
    follow : Tree → Name → Name → Tree
    each : Tree → Name → Name → Tree
    all : Trees → Tree
    over : Tree → Tree → Tree
    the_item : Tree
    named : List Name → Trees → Tree

  pub data Trees : Type 0 where
    no_trees : Trees
    tree : Tree → Trees → Trees

-- how many rounds at most
abbrev mutual
  pub depth_of : Tree → ℕ
  depth_of (ended a) = 0
  depth_of (load k) = 1
  depth_of (pick t field) = depth_of t
  depth_of (follow t field table) = depth_of t + 1
  depth_of (each t field table) = depth_of t + 1
  depth_of (all ts) = depth_of_all ts
  depth_of (over t body) = depth_of t + depth_of body
  depth_of the_item = 0
  depth_of (named names ts) = depth_of_all ts

  pub depth_of_all : Trees → ℕ
  depth_of_all no_trees = 0
  depth_of_all (tree t ts) = max (depth_of t) (depth_of_all ts)

-- how many forms are inside one another at most
abbrev mutual
  pub height_of : Tree → ℕ
  height_of (ended a) = 1
  height_of (load k) = 1
  height_of (pick t field) = height_of t + 1
  height_of (follow t field table) = height_of t + 1
  height_of (each t field table) = height_of t + 1
  height_of (all ts) = height_of_all ts + 1
  height_of (over t body) = max (height_of t) (height_of body) + 1
  height_of the_item = 1
  height_of (named names ts) = height_of_all ts + 1

  pub height_of_all : Trees → ℕ
  height_of_all no_trees = 0
  height_of_all (tree t ts) = max (height_of t) (height_of_all ts)

-- The tree with d in the place of the item. The body of an `over` has an item of its own.
abbrev mutual
  pub with_item : Data → Tree → Tree
  with_item d (ended a) = ended a
  with_item d (load k) = load k
  with_item d (pick t field) = pick (with_item d t) field
  with_item d (follow t field table) = follow (with_item d t) field table
  with_item d (each t field table) = each (with_item d t) field table
  with_item d (all ts) = all (with_item_all d ts)
  with_item d (over t body) = over (with_item d t) body
  with_item d the_item = ended (Value d)
  with_item d (named names ts) = named names (with_item_all d ts)

  pub with_item_all : Data → Trees → Trees
  with_item_all d no_trees = no_trees
  with_item_all d (tree t ts) = tree (with_item d t) (with_item_all d ts)

-- a copy of the body for each item of a list
abbrev pub copies : Tree → Items → Trees
copies body no_items = no_trees
copies body (item d ds) = tree (with_item d body) (copies body ds)
