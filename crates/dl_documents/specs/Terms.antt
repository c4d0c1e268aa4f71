-- How terms are spelled in JSON: each has one tree.
use Rattle.std.specs.Prelude.{◌≡◌, ℕ, ◌+◌, ◌≤◌, List, [], ◌∷◌, length, Bool, true, false, ◌&&◌, nat_le, codes}
use Rattle.serde_json.specs.Data.{Data, null, boolean, string, array, object, Items, no_items, item, Members, no_members, member}
use Rattle.serde_json.specs.Written.{has_float}
use Rattle.dl_values.specs.Key.{IsKey, table_bytes}
use Rattle.dl_terms.specs.Tree.{Name, Tree, ended, load, pick, follow, each, all, over, the_item, named, Trees, no_trees, tree}
use Rattle.dl_terms.specs.declared.answer.Answer.{Answer}
use Rattle.dl_terms.specs.declared.answer.Answer.TheVariants.{Value, Fault}
use Rattle.dl_documents.specs.Script.{key_tree, one}
use Rattle.dl_documents.specs.declared.forms.Forms.{Forms}
use Rattle.dl_documents.specs.declared.forms.Forms.TheVariants.{Six, Nine}

-- ---- trees

abbrev pub two : Data → Data → Data
two a b = array (item a (item b no_items))

abbrev pub three : Data → Data → Data → Data
three a b c = array (item a (item b (item c no_items)))

-- a term that has ended is a value; no document spells a fault
abbrev pub answer_tree : Answer → Data
answer_tree (Value d) = one (codes "value") d
answer_tree (Fault f) = null

-- a term is an object with one member, its form, whose value has its parts
abbrev mutual
  pub term_tree : Tree → Data
  term_tree (ended a) = answer_tree a
  term_tree (load k) = one (codes "load") (key_tree k)
  term_tree (pick t field) = one (codes "pick") (two (term_tree t) (string field))
  term_tree (follow t field table) = one (codes "follow") (three (term_tree t) (string field) (string table))
  term_tree (each t field table) = one (codes "each") (three (term_tree t) (string field) (string table))
  term_tree (all ts) = one (codes "all") (array (terms_tree ts))
  term_tree (over t body) = one (codes "over") (two (term_tree t) (term_tree body))
  term_tree the_item = one (codes "item") (boolean true)
  term_tree (named names ts) = one (codes "object") (object (members_tree names ts))

  pub terms_tree : Trees → Items
  terms_tree no_trees = no_items
  terms_tree (tree t ts) = item (term_tree t) (terms_tree ts)

  pub members_tree : List Name → Trees → Members
  members_tree names no_trees = no_members
  members_tree [] (tree t ts) = no_members
  members_tree (name ∷ names) (tree t ts) = member name (term_tree t) (members_tree names ts)

-- ---- terms

-- all numbers of a value are whole
abbrev pub IsWhole : Data → Type 0
IsWhole d = has_float d ≡ false

-- the name of a table has 1 to 64 bytes
pub record IsTableName (text : Name) : Type 0 where
  pub some : 1 ≤ length text
  pub short : length text ≤ table_bytes

abbrev pub IsValue : Answer → Type 0
IsValue (Value d) = IsWhole d
IsValue (Fault f) = ⊥

-- there is a name for each tree
abbrev pub HasNames : List Name → Trees → Type 0
HasNames [] no_trees = Unit {0}
HasNames [] (tree t ts) = ⊥
HasNames (name ∷ names) no_trees = ⊥
HasNames (name ∷ names) (tree t ts) = HasNames names ts

-- the values, keys and names of a term are what these must be
abbrev mutual
  pub IsTerm : Tree → Type 0
  IsTerm (ended a) = IsValue a
  IsTerm (load k) = IsKey k
  IsTerm (pick t field) = IsTerm t
  IsTerm (follow t field table) = IsTerm t × IsTableName table
  IsTerm (each t field table) = IsTerm t × IsTableName table
  IsTerm (all ts) = AreTerms ts
  IsTerm (over t body) = IsTerm t × IsTerm body
  IsTerm the_item = Unit {0}
  IsTerm (named names ts) = HasNames names ts × AreTerms ts

  pub AreTerms : Trees → Type 0
  AreTerms no_trees = Unit {0}
  AreTerms (tree t ts) = IsTerm t × AreTerms ts

-- ---- forms

-- the most bodies around a body
abbrev pub most_around : ℕ
most_around = 2

-- the forms that a term may have in a body
abbrev pub in_body : Forms → Forms
in_body Six = Six
in_body (Nine bodies) = Nine (bodies + 1)

-- whether they go over a list
abbrev pub allows_over : Forms → Bool
allows_over Six = false
allows_over (Nine bodies) = nat_le bodies most_around

-- whether they have an item: there is none outside of any body
abbrev pub allows_item : Forms → Bool
allows_item Six = false
allows_item (Nine bodies) = nat_le 1 bodies

-- whether they make an object
abbrev pub allows_object : Forms → Bool
allows_object Six = false
allows_object (Nine bodies) = true

-- whether a term has only these forms
abbrev mutual
  pub has_forms : Forms → Tree → Bool
  has_forms forms (ended a) = true
  has_forms forms (load k) = true
  has_forms forms (pick t field) = has_forms forms t
  has_forms forms (follow t field table) = has_forms forms t
  has_forms forms (each t field table) = has_forms forms t
  has_forms forms (all ts) = have_forms forms ts
  has_forms forms (over t body) = allows_over forms && (has_forms forms t && has_forms (in_body forms) body)
  has_forms forms the_item = allows_item forms
  has_forms forms (named names ts) = allows_object forms && have_forms forms ts

  pub have_forms : Forms → Trees → Bool
  have_forms forms no_trees = true
  have_forms forms (tree t ts) = has_forms forms t && have_forms forms ts
