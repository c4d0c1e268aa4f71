-- The data that a document's tree stands for. The tree keeps each number as its text, and the members of an object as the text has them.
use Rattle.std.specs.Prelude.{List, [], ◌∷◌, ℕ, Option, Some, None}
use Rattle.std.specs.Borrow.{Bor}
use Rattle.std.specs.declared.alloc.Global.{Global}
use Rattle.json.specs.Json as json
use Rattle.json.specs.Value.{value_view, items_view, members_view}
use Rattle.json.specs.declared.value.Value.{Value}
use Rattle.serde_json.specs.Data.{Num, Data, null, boolean, number, string, array, object, Items, no_items, item, Members, no_members, member, put}
use Rattle.serde_json.specs.Read.{number_of}

-- a number out of range, which no document has, counts as null
abbrev pub number_or_null : Option Num → Data
number_or_null (Some n) = number n
number_or_null None = null

-- The members go in one after another, so the last value of a name stays.
abbrev mutual
  pub data_of : json.Json → Data
  data_of json.null = null
  data_of (json.boolean b) = boolean b
  data_of (json.number s) = number_or_null (number_of s)
  data_of (json.string s) = string s
  data_of (json.array js) = array (items_data js)
  data_of (json.object ms) = object (members_data ms no_members)

  pub items_data : json.Items → Items
  items_data json.no_items = no_items
  items_data (json.item j js) = item (data_of j) (items_data js)

  pub members_data : json.Members → Members → Members
  members_data json.no_members found = found
  members_data (json.member k j ms) found = members_data ms (put k (data_of j) found)

-- the data of a tree
abbrev pub tree_data : Value Global → Data
tree_data v = data_of (value_view v)

-- the same of a list of trees
abbrev pub list_data : List (Value Global) → Items
list_data vs = items_data (items_view vs)

-- and of an object's members
abbrev pub object_data : List (Bor (List ℕ) × Value Global) → Members
object_data ms = members_data (members_view ms) no_members

-- the members whose values are these trees
abbrev pub entries_data : List (List ℕ × Value Global) → Members
entries_data [] = no_members
entries_data (e ∷ es) = member e.0 (tree_data e.1) (entries_data es)
