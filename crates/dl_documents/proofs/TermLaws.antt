-- A term has one tree: what is found in a tree is what the tree spells, and is found again.
use Rattle.std.proofs.Common.{◌≡◌, refl, sym, ap, subst, ◌∙◌, ℕ, List, [], ◌∷◌, codes, Option, Some, None, option_map}
use Rattle.std.proofs.lemmas.Option.{none-some}
use Rattle.std.specs.Option.{option_zip}
use Rattle.serde_json.specs.Data.{Data, string, array, object, Items, no_items, item, Members, no_members, member}
use Rattle.serde_json.specs.Find.{as_str, as_array, as_object}
use Rattle.serde_json.specs.Written.{has_float}
use Rattle.dl_values.specs.Key.{IsKey, table_bytes}
use Rattle.dl_source.proofs.Spelling.{array_of, string_of}
use Rattle.dl_source.specs.Faults.{is_sized}
use Rattle.dl_terms.proofs.Options.{from_map, from_and_then, from_both}
use Rattle.dl_terms.specs.Tree.{Name, Tree, ended, load, pick, follow, each, all, over, the_item, named, Trees, no_trees, tree}
use Rattle.dl_terms.specs.View.{trees_of}
use Rattle.dl_terms.specs.declared.answer.Answer.TheVariants.{Value, Fault}
use Rattle.dl_documents.proofs.Findings.{Spelled, sized, sized_again, kept, passed, from_zip, two_found, three_found}
use Rattle.dl_documents.proofs.Findings.{Finds, none_found, found_if, under, argued, object_of, true_is}
use Rattle.dl_documents.proofs.KeyLaws.{key_is, key_again}
use Rattle.dl_documents.specs.Script.{key_tree, one}
use Rattle.dl_documents.specs.Terms.{two, three, term_tree, terms_tree, members_tree, IsWhole, IsTableName, HasNames, IsTerm, AreTerms}
use Rattle.dl_documents.specs.Reading.{two_in, three_in, key_in, is_true}
use Rattle.dl_documents.specs.TermReading.{value_in, with_field, field_in, linked, with_link, link_in, first, second, together, picks, links, gathers}
use Rattle.dl_documents.specs.TermReading.{covers, item_in, names_of, values_of, assembles, term_named}
use Rattle.dl_documents.specs.TermReading.{term_in, term_of, parts_in, parts_of, parts_under}

-- ---- values and names

-- the value that is found in a tree is the tree
pub value_is : (d v : Data) → value_in d ≡ Some v → Spelled (λ x. x) IsWhole d v
value_is d v h = let p = passed (has_float d) d v h in rw (← p.1) (record { tree = refl; is = p.0 })

-- a list of a part and a field
pub field_is : (d : Data) (p : Data × Name) → field_in d ≡ Some p → d ≡ two p.0 (string p.1)
field_is d p h =
    let a = from_and_then with_field (two_in d) p h in
    let items : Data × Data = a.0 in
    let b = from_map (λ field. (items.0, field)) (as_str items.1) p a.2 in
    two_found d items a.1 ∙ (ap (two items.0) (string_of items.1 b.0 b.1) ∙ ap (λ (q : Data × Name). two q.0 (string q.1)) (sym b.2))

-- a list of a part, a field and a table
pub record IsLink (d : Data) (p : Data × Name × Name) : Type 0 where
  pub tree : d ≡ three p.0 (string p.1) (string p.2)
  pub table : IsTableName p.2

linked_is : (part : Data) (names : Name × Name) (p : Data × Name × Name) → linked part names ≡ Some p → IsLink (three part (string names.0) (string names.1)) p
linked_is part names p h =
    let a = kept (is_sized table_bytes names.1) (part, names.0, names.1) p h in
    let b = sized table_bytes names.1 a.0 in
    rw (← a.1) (record { tree = refl; table = record { some = b.0; short = b.1 } })

pub link_is : (d : Data) (p : Data × Name × Name) → link_in d ≡ Some p → IsLink d p
link_is d p h =
    let a = from_and_then with_link (three_in d) p h in
    let items : Data × Data × Data = a.0 in
    let b = from_and_then (linked items.0) (option_zip (as_str items.1) (as_str items.2)) p a.2 in
    let names : Name × Name = b.0 in
    let texts = from_zip (as_str items.1) (as_str items.2) names b.1 in
    let is = linked_is items.0 names p b.2 in
    record {
      tree = three_found d items a.1
          ∙ (ap (λ x. three items.0 x items.2) (string_of items.1 names.0 texts.0)
          ∙ (ap (three items.0 (string names.0)) (string_of items.2 names.1 texts.1) ∙ is.tree));
      table = is.table;
    }

-- ---- parts

-- what is found in the items, one by one, is spelled by them
abbrev FindsEach : Items → List (Option Tree) → Type 0
FindsEach no_items [] = Unit {0}
FindsEach no_items (o ∷ os) = ⊥
FindsEach (item d ds) [] = ⊥
FindsEach (item d ds) (o ∷ os) = Finds term_tree IsTerm d o × FindsEach ds os

-- the same of the items of a list, and of the members of an object
abbrev FindsParts : Data → List (Option Tree) → Type 0
FindsParts d os = ((ds : Items) → d ≡ array ds → FindsEach ds os) × ((ms : Members) → d ≡ object ms → FindsEach (values_of ms) os)

first_is : (d : Data) (ds : Items) (os : List (Option Tree)) → FindsEach (item d ds) os → Finds term_tree IsTerm d (first os)
first_is d ds [] h = absurd h
first_is d ds (o ∷ os) h = h.0

second_is : (d e : Data) (ds : Items) (os : List (Option Tree)) → FindsEach (item d (item e ds)) os → Finds term_tree IsTerm e (second os)
second_is d e ds [] h = absurd h
second_is d e ds (o ∷ os) h = first_is e ds os h.1

pick_is : (d : Data) (os : List (Option Tree)) → FindsParts d os → Finds term_tree IsTerm (one (codes "pick") d) (picks os d)
pick_is d os parts t h =
    let a = from_map (λ p. pick p.0 p.1.1) (option_zip (first os) (field_in d)) t h in
    let both : Tree × (Data × Name) = a.0 in
    let part : Tree = both.0 in
    let beside : Data × Name = both.1 in
    let found = from_zip (first os) (field_in d) both a.1 in
    let spelled : d ≡ two beside.0 (string beside.1) = field_is d beside found.1 in
    let is = first_is beside.0 (item (string beside.1) no_items) os (parts.0 _ spelled) part found.0 in
    rw a.2 (record { tree = ap (one (codes "pick")) (spelled ∙ ap (λ x. two x (string beside.1)) is.tree); is = is.is })

-- a follow and an each are spelled alike
links_are : (form : Tree → Name → Name → Tree) (own : List ℕ)
    → ((t : Tree) (field table : Name) → term_tree (form t field table) ≡ one own (three (term_tree t) (string field) (string table)))
    → ((t : Tree) (field table : Name) → IsTerm t → IsTableName table → IsTerm (form t field table))
    → (d : Data) (os : List (Option Tree)) → FindsParts d os → Finds term_tree IsTerm (one own d) (links form os d)
links_are form own trees terms d os parts t h =
    let a = from_map (λ p. form p.0 p.1.1 p.1.2) (option_zip (first os) (link_in d)) t h in
    let both : Tree × (Data × Name × Name) = a.0 in
    let part : Tree = both.0 in
    let beside : Data × Name × Name = both.1 in
    let found = from_zip (first os) (link_in d) both a.1 in
    let link = link_is d beside found.1 in
    let is = first_is beside.0 (item (string beside.1) (item (string beside.2) no_items)) os (parts.0 _ link.tree) part found.0 in
    rw a.2 (record {
      tree = ap (one own) (link.tree ∙ ap (λ x. three x (string beside.1) (string beside.2)) is.tree) ∙ sym (trees part beside.1 beside.2);
      is = terms part beside.1 beside.2 is.is link.table;
    })

each_is : (ds : Items) (os : List (Option Tree)) (ts : List Tree) → FindsEach ds os → together os ≡ Some ts
    → (ds ≡ terms_tree (trees_of ts)) × AreTerms (trees_of ts)
each_is no_items [] ts h e = let none : [] ≡ ts = cc in rw (← none) (refl, tt)
each_is no_items (o ∷ os) ts h e = absurd h
each_is (item d ds) [] ts h e = absurd h
each_is (item d ds) (o ∷ os) ts h e =
    let p = from_both o (together os) ts e in
    let a = h.0 p.0 p.2 in
    let b = each_is ds os p.1 h.1 p.3 in
    rw p.4 (ap (λ x. item x ds) a.tree ∙ ap (item (term_tree p.0)) b.0, (a.is, b.1))

all_is : (d : Data) (os : List (Option Tree)) → FindsParts d os → Finds term_tree IsTerm (one (codes "all") d) (gathers os d)
all_is d os parts t h =
    let a = from_and_then (λ ds. option_map (λ ts. all (trees_of ts)) (together os)) (as_array d) t h in
    let b = from_map (λ ts. all (trees_of ts)) (together os) t a.2 in
    let spelled : d ≡ array a.0 = array_of d a.0 a.1 in
    let is = each_is a.0 os b.0 (parts.0 a.0 spelled) b.1 in
    rw b.2 (record { tree = ap (one (codes "all")) (spelled ∙ ap array is.0); is = is.1 })

over_is : (d : Data) (os : List (Option Tree)) → FindsParts d os → Finds term_tree IsTerm (one (codes "over") d) (covers os d)
over_is d os parts t h =
    let a = from_and_then (λ p. option_map (λ q. over q.0 q.1) (option_zip (first os) (second os))) (two_in d) t h in
    let two_items : Data × Data = a.0 in
    let b = from_map (λ q. over q.0 q.1) (option_zip (first os) (second os)) t a.2 in
    let both : Tree × Tree = b.0 in
    let found = from_zip (first os) (second os) both b.1 in
    let spelled : d ≡ two two_items.0 two_items.1 = two_found d two_items a.1 in
    let each = parts.0 _ spelled in
    let part = first_is two_items.0 (item two_items.1 no_items) os each both.0 found.0 in
    let body = second_is two_items.0 two_items.1 no_items os each both.1 found.1 in
    rw b.2 (record {
      tree = ap (one (codes "over")) (spelled ∙ (ap (λ x. two x two_items.1) part.tree ∙ ap (two (term_tree both.0)) body.tree));
      is = (part.is, body.is);
    })

item_is : (d : Data) → Finds term_tree IsTerm (one (codes "item") d) (item_in d)
item_is d t h =
    let p = kept (is_true d) the_item t h in
    rw (← p.1) (record { tree = ap (one (codes "item")) (true_is d p.0); is = tt })

-- members whose values are trees of terms
members_made : (ms : Members) (ts : Trees) → values_of ms ≡ terms_tree ts → (ms ≡ members_tree (names_of ms) ts) × HasNames (names_of ms) ts
members_made no_members no_trees h = (refl, tt)
members_made no_members (tree t ts) h = absurd (let bad : no_items ≡ item (term_tree t) (terms_tree ts) = h in cc)
members_made (member name d ms) no_trees h = absurd (let bad : item d (values_of ms) ≡ no_items = h in cc)
members_made (member name d ms) (tree t ts) h =
    let both : item d (values_of ms) ≡ item (term_tree t) (terms_tree ts) = h in
    let value : d ≡ term_tree t = cc in
    let rest : values_of ms ≡ terms_tree ts = cc in
    let p = members_made ms ts rest in
    (ap (λ (x : Data). member name x ms) value ∙ ap (member name (term_tree t)) p.0, p.1)

object_is : (d : Data) (os : List (Option Tree)) → FindsParts d os → Finds term_tree IsTerm (one (codes "object") d) (assembles os d)
object_is d os parts t h =
    let a = from_and_then (λ ms. option_map (λ ts. named (names_of ms) (trees_of ts)) (together os)) (as_object d) t h in
    let ms : Members = a.0 in
    let b = from_map (λ ts. named (names_of ms) (trees_of ts)) (together os) t a.2 in
    let spelled : d ≡ object ms = object_of d ms a.1 in
    let is = each_is (values_of ms) os b.0 (parts.1 ms spelled) b.1 in
    let made = members_made ms (trees_of b.0) is.0 in
    rw b.2 (record { tree = ap (one (codes "object")) (spelled ∙ ap object made.0); is = (made.1, is.1) })

-- ---- terms

named_is : (name : List ℕ) (d : Data) (os : List (Option Tree)) → FindsParts d os → Finds term_tree IsTerm (one name d) (term_named name d os)
named_is name d os parts =
    found_if term_tree IsTerm (one name d) _ _ _
    (argued (λ x. x) IsWhole term_tree IsTerm (λ v. ended (Value v)) (codes "value") name d (value_in d) (value_is d) (λ x. refl) (λ x h. h))
    (found_if term_tree IsTerm (one name d) _ _ _
    (argued key_tree IsKey term_tree IsTerm load (codes "load") name d (key_in d) (key_is d) (λ x. refl) (λ x h. h))
    (found_if term_tree IsTerm (one name d) _ _ _ (under term_tree IsTerm (codes "pick") name d (picks os d) (pick_is d os parts))
    (found_if term_tree IsTerm (one name d) _ _ _
    (under term_tree IsTerm (codes "follow") name d (links follow os d)
    (links_are follow (codes "follow") (λ t field table. refl) (λ t field table a b. (a, b)) d os parts))
    (found_if term_tree IsTerm (one name d) _ _ _
    (under term_tree IsTerm (codes "each") name d (links each os d)
    (links_are each (codes "each") (λ t field table. refl) (λ t field table a b. (a, b)) d os parts))
    (found_if term_tree IsTerm (one name d) _ _ _ (under term_tree IsTerm (codes "all") name d (gathers os d) (all_is d os parts))
    (found_if term_tree IsTerm (one name d) _ _ _ (under term_tree IsTerm (codes "over") name d (covers os d) (over_is d os parts))
    (found_if term_tree IsTerm (one name d) _ _ _ (under term_tree IsTerm (codes "item") name d (item_in d) (item_is d))
    (found_if term_tree IsTerm (one name d) _ _ _ (under term_tree IsTerm (codes "object") name d (assembles os d) (object_is d os parts))
    (none_found term_tree IsTerm (one name d))))))))))

no_array : (d : Data) (ds : Items) → as_array d ≡ None → d ≡ array ds → ⊥
no_array d ds none is = none-some ds (sym none ∙ ap as_array is)

same_items : (ds es : Items) → array ds ≡ array es → ds ≡ es
same_items ds es h = cc

no_object : (d : Data) (ms : Members) → as_object d ≡ None → d ≡ object ms → ⊥
no_object d ms none is = none-some ms (sym none ∙ ap as_object is)

same_members : (ms ns : Members) → object ms ≡ object ns → ms ≡ ns
same_members ms ns h = cc

mutual
  -- the term that is found in a tree is spelled by it
  pub term_is : (d : Data) (t : Tree) → term_in d ≡ Some t → Spelled term_tree IsTerm d t
  term_is (object ms) t h = term_of_is ms t h
  term_is d t h = absurd (none-some t h)

  term_of_is : (ms : Members) (t : Tree) → term_of ms ≡ Some t → Spelled term_tree IsTerm (object ms) t
  term_of_is (member name d no_members) t h = named_is name d (parts_in d) (parts_are d) t h
  term_of_is ms t h = absurd (none-some t h)

  parts_are : (d : Data) → FindsParts d (parts_in d)
  parts_are (array es) = (
    λ ds h. subst (λ xs. FindsEach xs (parts_of es)) (same_items es ds h) (items_are es),
    λ ms h. absurd (no_object (array es) ms refl h),
  )
  parts_are (object ns) = (
    λ ds h. absurd (no_array (object ns) ds refl h),
    λ ms h. subst (λ xs. FindsEach (values_of xs) (parts_under ns)) (same_members ns ms h) (members_are ns),
  )
  parts_are d = (λ ds h. absurd (no_array d ds refl h), λ ms h. absurd (no_object d ms refl h))

  items_are : (ds : Items) → FindsEach ds (parts_of ds)
  items_are no_items = tt
  items_are (item d ds) = (term_is d, items_are ds)

  members_are : (ms : Members) → FindsEach (values_of ms) (parts_under ms)
  members_are no_members = tt
  members_are (member name d ms) = (term_is d, members_are ms)

-- ---- terms again

abbrev list_of : Trees → List Tree
list_of no_trees = []
list_of (tree t ts) = t ∷ list_of ts

listed : (ts : Trees) → trees_of (list_of ts) ≡ ts
listed no_trees = refl
listed (tree t ts) = ap (tree t) (listed ts)

-- the members of trees with names have these names
names_again : (names : List Name) (ts : Trees) → HasNames names ts → names_of (members_tree names ts) ≡ names
names_again [] no_trees h = refl
names_again [] (tree t ts) h = absurd h
names_again (name ∷ names) no_trees h = absurd h
names_again (name ∷ names) (tree t ts) h = ap (λ ns. name ∷ ns) (names_again names ts h)

mutual
  -- and a term is found in its tree
  pub term_again : (t : Tree) → IsTerm t → term_in (term_tree t) ≡ Some t
  term_again (ended (Value d)) h = rw h refl
  term_again (ended (Fault f)) h = absurd h
  term_again (load k) h = ap (option_map load) (key_again k h)
  term_again (pick t field) h = rw (term_again t h) refl
  term_again (follow t field table) h = rw (sized_again table_bytes table h.1.some h.1.short, term_again t h.0) refl
  term_again (each t field table) h = rw (sized_again table_bytes table h.1.some h.1.short, term_again t h.0) refl
  term_again (all ts) h = rw (terms_again ts h) (ap (λ us. Some (all us)) (listed ts))
  term_again (over t body) h = rw (term_again t h.0, term_again body h.1) refl
  term_again the_item h = refl
  term_again (named names ts) h = rw (members_again ts names h.0 h.1, names_again names ts h.0) (ap (λ us. Some (named names us)) (listed ts))

  terms_again : (ts : Trees) → AreTerms ts → together (parts_of (terms_tree ts)) ≡ Some (list_of ts)
  terms_again no_trees h = refl
  terms_again (tree t ts) h = rw (term_again t h.0, terms_again ts h.1) refl

  members_again : (ts : Trees) (names : List Name) → HasNames names ts → AreTerms ts → together (parts_under (members_tree names ts)) ≡ Some (list_of ts)
  members_again no_trees names n h = refl
  members_again (tree t ts) [] n h = absurd n
  members_again (tree t ts) (name ∷ names) n h = rw (term_again t h.0, members_again ts names n h.1) refl
