-- The terms of a list of a part and names, from what was read of the part.
use Rattle.std.proofs.Common.{◌≡◌, ◌∙◌, refl, sym, ap, ℕ, ◌<◌, max, List, ◌∷◌, map, false, codes, bytes_eq, Option, Some, None, option_map, Box, Vec, Global, rules, arith}
use Rattle.std.proofs.Common.{option_and_then}
use Rattle.std.proofs.Math.Nat.{le-max_left, le-max_right}
use Rattle.std.proofs.lemmas.Bool.{false_from_ne_true}
use Rattle.std.proofs.lemmas.Slice.Eq.{bytes_eq-Decides}
use Rattle.std.specs.Option.{option_zip}
use Rattle.json.specs.declared.value.Value.{Value}
use Rattle.serde_json.specs.Data.{Data, string, array, Items, no_items, item, Members, no_members, member, depth, items_depth, members_depth}
use Rattle.serde_json.specs.Find.{as_array, as_object}
use Rattle.dl_terms.specs.Tree.{Name, Tree, pick, follow, each, over, named}
use Rattle.dl_terms.specs.View.{term_view, terms_view, trees_of}
use Rattle.dl_terms.specs.declared.term.Term.{Term, the_lemmas}
use Rattle.dl_terms.specs.declared.term.Term.TheVariants as form
use Rattle.dl_documents.proofs.TermLaws.{field_is, link_is}
use Rattle.dl_documents.proofs.Findings.{object_of, two_found}
use Rattle.dl_documents.specs.Inside.Trees.{list_data}
use Rattle.dl_documents.specs.Reading.{two_in}
use Rattle.dl_documents.specs.TermReading.{field_in, link_in, first, second, together, picks, links, gathers, covers, names_of, values_of, assembles}
use Rattle.dl_documents.specs.TermReading.{term_named, term_in, parts_in, parts_of, parts_under}

-- ---- forms

pub term_view-Pick : (part : Box Term Global) (field : Name) → term_view (form.Pick part field) ≡ pick (term_view part.value) field
term_view-Pick part field = search (rules, the_lemmas)

pub term_view-Follow : (part : Box Term Global) (field table : Name) → term_view (form.Follow part field table) ≡ follow (term_view part.value) field table
term_view-Follow part field table = search (rules, the_lemmas)

pub term_view-Each : (part : Box Term Global) (field table : Name) → term_view (form.Each part field table) ≡ each (term_view part.value) field table
term_view-Each part field table = search (rules, the_lemmas)

-- ---- parts

zip_none : {A B : Type 0} (a : Option A) → option_zip {U = B} a None ≡ None
zip_none None = refl
zip_none (Some x) = refl

-- with no names there is no term
pub no_names : {B : Type 0} (make : Tree × B → Tree) (part : Option Tree) (names : Option B) → None ≡ names → None ≡ option_map make (option_zip part names)
no_names make part names h = rw (← h, zip_none part) refl

zip_some : {B : Type 0} (make : Tree × B → Tree) (part : Option Tree) (names : B)
    → option_map (λ t. make (t, names)) part ≡ option_map make (option_zip part (Some names))
zip_some make None names = refl
zip_some make (Some t) names = refl

-- the term of a list whose first item spells the part
of_part : {B : Type 0} (make : Tree × B → Tree) (d part : Data) (rest : Items) (names : B) (found : Option B) → d ≡ array (item part rest) → Some names ≡ found
    → option_map (λ t. make (t, names)) (term_in part) ≡ option_map make (option_zip (first (parts_in d)) found)
of_part make d part rest names found is at = rw (is, ← at) (zip_some make (term_in part) names)

-- what was read of a part
abbrev IsRead : Option (Box Term Global) → Data → Type 0
IsRead read part = option_map (λ (t : Box Term Global). term_view t.value) read ≡ term_in part

read_none : (read : Option (Box Term Global)) (part : Data) → IsRead read part → read ≡ None → None ≡ term_in part
read_none read part is at = rw at at is

read_some : (read : Option (Box Term Global)) (part : Data) (t : Box Term Global) → IsRead read part → read ≡ Some t → Some (term_view t.value) ≡ term_in part
read_some read part t is at = rw at at is

-- the part nests less deep than its list
lower : (d part : Data) (rest : Items) → d ≡ array (item part rest) → depth part < depth d
lower d part rest is = rw is (omega (arith, le-max_left (depth part) (items_depth rest)))

-- ---- picks

pub field_lower : (d part : Data) (field : Name) → Some (part, field) ≡ field_in d → depth part < depth d
field_lower d part field at = lower d part (item (string field) no_items) (field_is d (part, field) (sym at))

-- with no part there is no pick
pub pick_none : (d part : Data) (field : Name) (read : Option (Box Term Global)) → Some (part, field) ≡ field_in d → IsRead read part → read ≡ None
    → None ≡ picks (parts_in d) d
pick_none d part field read at is none =
    ap (option_map (λ t. pick t field)) (read_none read part is none)
    ∙ of_part (λ p. pick p.0 p.1.1) d part (item (string field) no_items) (part, field) (field_in d) (field_is d (part, field) (sym at)) at

-- a part and a field make a pick
pub pick_some : (d part : Data) (field own : Name) (read : Option (Box Term Global)) (t : Box Term Global) → Some (part, field) ≡ field_in d → IsRead read part
    → read ≡ Some t → own ≡ field → Some (term_view (form.Pick t own)) ≡ picks (parts_in d) d
pick_some d part field own read t at is some same =
    ap Some (term_view-Pick t own) ∙ (ap (λ n. Some (pick (term_view t.value) n)) same
    ∙ (ap (option_map (λ t. pick t field)) (read_some read part t is some)
    ∙ of_part (λ p. pick p.0 p.1.1) d part (item (string field) no_items) (part, field) (field_in d) (field_is d (part, field) (sym at)) at))

-- ---- links

pub link_lower : (d part : Data) (field table : Name) → Some (part, field, table) ≡ link_in d → depth part < depth d
link_lower d part field table at =
    lower d part (item (string field) (item (string table) no_items)) (link_is d (part, field, table) (sym at)).tree

links_at : (make : Tree → Name → Name → Tree) (d part : Data) (field table : Name) → Some (part, field, table) ≡ link_in d
    → option_map (λ t. make t field table) (term_in part) ≡ links make (parts_in d) d
links_at make d part field table at =
    of_part (λ p. make p.0 p.1.1 p.1.2) d part (item (string field) (item (string table) no_items)) (part, field, table) (link_in d)
    (link_is d (part, field, table) (sym at)).tree at

-- with no part there is no link
pub link_none : (make : Tree → Name → Name → Tree) (d part : Data) (field table : Name) (read : Option (Box Term Global))
    → Some (part, field, table) ≡ link_in d → IsRead read part → read ≡ None → None ≡ links make (parts_in d) d
link_none make d part field table read at is none =
    ap (option_map (λ t. make t field table)) (read_none read part is none) ∙ links_at make d part field table at

-- a part, a field and a table make a link
pub link_some : (make : Tree → Name → Name → Tree) (d part : Data) (field table : Name) (read : Option (Box Term Global)) (t : Box Term Global)
    (own kind : Name) → Some (part, field, table) ≡ link_in d → IsRead read part → read ≡ Some t → own ≡ field → kind ≡ table
    → Some (make (term_view t.value) own kind) ≡ links make (parts_in d) d
link_some make d part field table read t own kind at is some same alike =
    rw (same, alike) (ap (option_map (λ t. make t field table)) (read_some read part t is some) ∙ links_at make d part field table at)

-- ---- lists and names

-- what is no list has no terms
pub no_list : (d : Data) (parts : List (Option Tree)) → None ≡ as_array d → None ≡ gathers parts d
no_list d parts h = rw (← h) refl

differs : (a b : List ℕ) → (a ≡ b → ⊥) → bytes_eq a b ≡ false
differs a b h = false_from_ne_true (bytes_eq a b) (λ e. h ((bytes_eq-Decides a b).0 e))

-- another name is no term's
pub other_name : (name : List ℕ) (d : Data) (parts : List (Option Tree)) → (name ≡ codes "value" → ⊥) → (name ≡ codes "load" → ⊥)
    → (name ≡ codes "pick" → ⊥) → (name ≡ codes "follow" → ⊥) → (name ≡ codes "each" → ⊥) → (name ≡ codes "all" → ⊥) → (name ≡ codes "over" → ⊥)
    → (name ≡ codes "item" → ⊥) → (name ≡ codes "object" → ⊥) → None ≡ term_named name d parts
other_name name d parts no_value no_load no_pick no_follow no_each no_all no_over no_item no_object =
    rw (differs name _ no_value, differs name _ no_load, differs name _ no_pick)
    (rw (differs name _ no_follow, differs name _ no_each, differs name _ no_all) (rw (differs name _ no_over, differs name _ no_item, differs name _ no_object) refl))

-- ---- bodies and members

pub term_view-Over : (part body : Box Term Global) → term_view (form.Over part body) ≡ over (term_view part.value) (term_view body.value)
term_view-Over part body = search (rules, the_lemmas)

-- what a part and a body make
abbrev make_over : Option Tree → Option Tree → Option Tree
make_over part body = option_map (λ q. over q.0 q.1) (option_zip part body)

over_at : (d part body : Data) → Some (part, body) ≡ two_in d → make_over (term_in part) (term_in body) ≡ covers (parts_in d) d
over_at d part body at = rw (two_found d (part, body) (sym at)) refl

-- with no two items there is no over
pub no_over : (d : Data) → None ≡ two_in d → None ≡ covers (parts_in d) d
no_over d h = ap (option_and_then (λ p. make_over (first (parts_in d)) (second (parts_in d)))) h

pub over_no_part : (d part body : Data) (read : Option (Box Term Global)) → Some (part, body) ≡ two_in d → IsRead read part → read ≡ None
    → None ≡ covers (parts_in d) d
over_no_part d part body read at is none = ap (λ o. make_over o (term_in body)) (read_none read part is none) ∙ over_at d part body at

module _ (d part body : Data) (read : Option (Box Term Global)) (t : Box Term Global) (at : Some (part, body) ≡ two_in d) (is : IsRead read part)
    (some : read ≡ Some t) (also : Option (Box Term Global)) (is_body : IsRead also body) where
  with_part : make_over (Some (term_view t.value)) (term_in body) ≡ covers (parts_in d) d
  with_part = ap (λ o. make_over o (term_in body)) (read_some read part t is some) ∙ over_at d part body at

  pub over_no_body : also ≡ None → None ≡ covers (parts_in d) d
  over_no_body none = ap (make_over (Some (term_view t.value))) (read_none also body is_body none) ∙ with_part

  -- a part and a body make an over
  pub over_some : (u : Box Term Global) → also ≡ Some u → Some (term_view (form.Over t u)) ≡ covers (parts_in d) d
  over_some u found =
      ap Some (term_view-Over t u) ∙ (ap (make_over (Some (term_view t.value))) (read_some also body u is_body found) ∙ with_part)

pub part_lower : (d part body : Data) → Some (part, body) ≡ two_in d → depth part < depth d
part_lower d part body at = lower d part (item body no_items) (two_found d (part, body) (sym at))

pub body_lower : (d part body : Data) → Some (part, body) ≡ two_in d → depth body < depth d
body_lower d part body at =
    rw (two_found d (part, body) (sym at))
    (omega (arith, le-max_right (depth part) (items_depth (item body no_items)), le-max_left (depth body) (items_depth no_items)))

-- what is no object has no members
pub no_object : (d : Data) → None ≡ as_object d → None ≡ assembles (parts_in d) d
no_object d h = ap (option_and_then (λ ms. option_map (λ ts. named (names_of ms) (trees_of ts)) (together (parts_in d)))) h

parts_under_is : (ms : Members) → parts_of (values_of ms) ≡ parts_under ms
parts_under_is no_members = refl
parts_under_is (member name d ms) = ap (λ os. term_in d ∷ os) (parts_under_is ms)

object_at : (d : Data) (ms : Members) → Some ms ≡ as_object d
    → option_map (λ ts. named (names_of ms) (trees_of ts)) (together (parts_of (values_of ms))) ≡ assembles (parts_in d) d
object_at d ms h = rw (object_of d ms (sym h)) (ap (λ os. option_map (λ ts. named (names_of ms) (trees_of ts)) (together os)) (parts_under_is ms))

term_view-Object : (names : List (List ℕ)) (parts : Vec Term Global) → term_view (form.Object names parts) ≡ named names (terms_view parts.items)
term_view-Object names parts = search (rules, the_lemmas)

module _ (d : Data) (ms : Members) (values : List (Value Global)) (at : Some ms ≡ as_object d) (are : list_data values ≡ values_of ms) where
  -- one of the members spells no term
  pub members_none : None ≡ together (parts_of (list_data values)) → None ≡ assembles (parts_in d) d
  members_none none =
      ap (option_map (λ ts. named (names_of ms) (trees_of ts))) (none ∙ ap (λ ds. together (parts_of ds)) are) ∙ object_at d ms at

  -- names and parts make an object
  pub members_some : (names : List (List ℕ)) (parts : Vec Term Global) → names ≡ names_of ms
      → Some (map term_view parts.items) ≡ together (parts_of (list_data values)) → Some (term_view (form.Object names parts)) ≡ assembles (parts_in d) d
  members_some names parts same found =
      ap Some (term_view-Object names parts ∙ ap (λ ns. named ns (terms_view parts.items)) same)
      ∙ (ap (option_map (λ ts. named (names_of ms) (trees_of ts))) (found ∙ ap (λ ds. together (parts_of ds)) are) ∙ object_at d ms at)

values_depth : (ms : Members) → items_depth (values_of ms) ≡ members_depth ms
values_depth no_members = refl
values_depth (member name d ms) = ap (λ n. max (depth d) n) (values_depth ms)

-- the values of an object's members nest less deep than it
pub values_lower : (d : Data) (ms : Members) (values : List (Value Global)) → Some ms ≡ as_object d → list_data values ≡ values_of ms
    → items_depth (list_data values) < depth d
values_lower d ms values at are =
    let same : items_depth (list_data values) ≡ members_depth ms = ap items_depth are ∙ values_depth ms in
    rw (object_of d ms (sym at)) (omega arith)
