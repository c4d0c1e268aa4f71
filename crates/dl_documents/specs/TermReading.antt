-- What term a tree spells, found from the tree.
use Rattle.std.specs.Prelude.{ℕ, List, [], ◌∷◌, codes, bytes_eq, Option, Some, None, option_map, option_and_then, if◌then◌else◌}
use Rattle.std.specs.Option.{option_zip}
use Rattle.serde_json.specs.Data.{Data, null, boolean, number, string, array, object, Items, no_items, item, Members, no_members, member}
use Rattle.serde_json.specs.Find.{as_array, as_object, as_str}
use Rattle.serde_json.specs.Written.{has_float}
use Rattle.dl_values.specs.Key.{table_bytes}
use Rattle.dl_source.specs.Faults.{is_sized}
use Rattle.dl_terms.specs.TermAnswers.{both}
use Rattle.dl_terms.specs.Tree.{Name, Tree, ended, load, pick, follow, each, all, over, the_item, named}
use Rattle.dl_terms.specs.View.{trees_of}
use Rattle.dl_terms.specs.declared.answer.Answer.TheVariants.{Value}
use Rattle.dl_documents.specs.Reading.{two_in, three_in, key_in, is_true}

-- ---- values and names

-- the tree as a value, if all its numbers are whole
abbrev pub value_in : Data → Option Data
value_in d = if has_float d then None else Some d

abbrev pub with_field : Data × Data → Option (Data × Name)
with_field p = option_map (λ field. (p.0, field)) (as_str p.1)

-- a list of a part and a field
abbrev pub field_in : Data → Option (Data × Name)
field_in d = option_and_then with_field (two_in d)

abbrev pub linked : Data → Name × Name → Option (Data × Name × Name)
linked part names = if is_sized table_bytes names.1 then Some (part, names.0, names.1) else None

abbrev pub with_link : Data × Data × Data → Option (Data × Name × Name)
with_link p = option_and_then (linked p.0) (option_zip (as_str p.1) (as_str p.2))

-- a list of a part, a field and a table
abbrev pub link_in : Data → Option (Data × Name × Name)
link_in d = option_and_then with_link (three_in d)

-- ---- forms

-- what the first item gives
abbrev pub first : List (Option Tree) → Option Tree
first [] = None
first (o ∷ os) = o

-- what all items give
abbrev pub together : List (Option Tree) → Option (List Tree)
together [] = Some []
together (o ∷ os) = both o (together os)

abbrev pub picks : List (Option Tree) → Data → Option Tree
picks parts d = option_map (λ p. pick p.0 p.1.1) (option_zip (first parts) (field_in d))

abbrev pub links : (Tree → Name → Name → Tree) → List (Option Tree) → Data → Option Tree
links form parts d = option_map (λ p. form p.0 p.1.1 p.1.2) (option_zip (first parts) (link_in d))

abbrev pub gathers : List (Option Tree) → Data → Option Tree
gathers parts d = option_and_then (λ ds. option_map (λ ts. all (trees_of ts)) (together parts)) (as_array d)

-- what the second item gives
abbrev pub second : List (Option Tree) → Option Tree
second [] = None
second (o ∷ os) = first os

abbrev pub covers : List (Option Tree) → Data → Option Tree
covers parts d = option_and_then (λ p. option_map (λ q. over q.0 q.1) (option_zip (first parts) (second parts))) (two_in d)

abbrev pub item_in : Data → Option Tree
item_in d = if is_true d then Some the_item else None

-- the names of members, in their order
abbrev pub names_of : Members → List Name
names_of no_members = []
names_of (member name d ms) = name ∷ names_of ms

-- and their values
abbrev pub values_of : Members → Items
values_of no_members = no_items
values_of (member name d ms) = item d (values_of ms)

abbrev pub assembles : List (Option Tree) → Data → Option Tree
assembles parts d = option_and_then (λ ms. option_map (λ ts. named (names_of ms) (trees_of ts)) (together parts)) (as_object d)

-- the term of a name and an argument, whose items or members spell these parts
abbrev pub term_named : List ℕ → Data → List (Option Tree) → Option Tree
term_named name d parts =
    if bytes_eq name (codes "value") then option_map (λ v. ended (Value v)) (value_in d)
    else if bytes_eq name (codes "load") then option_map load (key_in d)
    else if bytes_eq name (codes "pick") then picks parts d
    else if bytes_eq name (codes "follow") then links follow parts d
    else if bytes_eq name (codes "each") then links each parts d
    else if bytes_eq name (codes "all") then gathers parts d
    else if bytes_eq name (codes "over") then covers parts d
    else if bytes_eq name (codes "item") then item_in d
    else if bytes_eq name (codes "object") then assembles parts d
    else None

-- ---- terms

abbrev mutual
  -- the term that a tree spells
  pub term_in : Data → Option Tree
  term_in null = None
  term_in (boolean b) = None
  term_in (number n) = None
  term_in (string s) = None
  term_in (array ds) = None
  term_in (object ms) = term_of ms

  pub term_of : Members → Option Tree
  term_of no_members = None
  term_of (member name d no_members) = term_named name d (parts_in d)
  term_of (member name d (member other e ms)) = None

  -- the terms that the items of a list or the members of an object spell
  pub parts_in : Data → List (Option Tree)
  parts_in null = []
  parts_in (boolean b) = []
  parts_in (number n) = []
  parts_in (string s) = []
  parts_in (array ds) = parts_of ds
  parts_in (object ms) = parts_under ms

  pub parts_of : Items → List (Option Tree)
  parts_of no_items = []
  parts_of (item d ds) = term_in d ∷ parts_of ds

  pub parts_under : Members → List (Option Tree)
  parts_under no_members = []
  parts_under (member name d ms) = term_in d ∷ parts_under ms
