-- The top of a document over a database.
use Rattle.std.proofs.Common.{◌≡◌, ◌∙◌, ◌↔◌, refl, sym, ap, ℕ, ℤ, pos, Bool, true, false, not, ◌&&◌, IsTrue, codes, is_some, option_map, Option, Some, None, true≢false}
use Rattle.std.proofs.Common.{if◌then◌else◌}
use Rattle.std.proofs.lemmas.Bool.Decides.{Decides-int_eq}
use Rattle.std.specs.Option.{is_none, option_map_or}
use Rattle.std.specs.Ordering.{int_eq}
use Rattle.serde_json.specs.Data.{Data, array, no_items, object, put}
use Rattle.serde_json.specs.Find.{get}
use Rattle.serde_json.specs.View.{view}
use Rattle.serde_json.specs.declared.value.Value.{Value}
use Rattle.dl_documents.specs.Document.{has_number, is_script, version_number}
use Rattle.dl_documents.specs.OverDatabase.{is_later, lacks_tables, read_as, with_no_tables}
use Rattle.dl_documents.specs.Inside.Top.{IsApart, top_data, top_members, with_tables}
use Rattle.dl_documents.specs.Inside.Trees.{object_data}
use Rattle.dl_documents.specs.declared.top.Top.{Top}
use Rattle.dl_documents.proofs.TopMembers.{tables_there, with_new_tables}

-- ---- tests of the top

false_unless : (b : Bool) → (b ≡ true → ⊥) → b ≡ false
false_unless true h = absurd (h refl)
false_unless false h = refl

same_number : (m : ℕ) → int_eq (pos m) (pos m) ≡ true
same_number m = (Decides-int_eq (pos m) (pos m)).1 refl

number_if : (m : ℕ) (b : Bool) (n : Option ℤ) → (IsTrue b ↔ (n ≡ Some (pos m))) → option_map_or (int_eq (pos m)) n false ≡ b
number_if m true n same = ap (λ (o : Option ℤ). option_map_or (int_eq (pos m)) o false) (same.0 refl) ∙ same_number m
number_if m false None same = refl
number_if m false (Some z) same =
    false_unless (int_eq (pos m) z) (λ e. true≢false (sym (same.1 (ap (λ (y : ℤ). Some y) (sym ((Decides-int_eq (pos m) z).0 e))))))

-- the number of the version was tested
pub numbered_if : (m : ℕ) (d : Data) (b : Bool) → (IsTrue b ↔ (version_number d ≡ Some (pos m))) → has_number m d ≡ b
numbered_if m d b same = number_if m b (version_number d) same

none_if : {A : Type 0} (o : Option A) (none : Bool) → is_some o ≡ not none → is_none o ≡ none
none_if None true h = refl
none_if None false h = cc
none_if (Some x) true h = cc
none_if (Some x) false h = refl

none_viewed : (o : Option Value) → is_none (option_map view o) ≡ is_none o
none_viewed None = refl
none_viewed (Some v) = refl

-- the three tests were made
pub lacks_if : (t : Top) (none script second : Bool) → IsApart t → is_some t.tables ≡ not none → is_script (top_data t) ≡ script
    → is_later (top_data t) ≡ second → lacks_tables (top_data t) ≡ (none && (not script && second))
lacks_if t none script second apart has is_one is_two =
    let absent : is_none (get (codes "tables") (top_data t)) ≡ none =
    ap is_none (tables_there t.tables (object_data t.members.items) apart) ∙ none_viewed t.tables ∙ none_if t.tables none has in
    ap (λ (b : Bool). b && (not (is_script (top_data t)) && is_later (top_data t))) absent
    ∙ ap (λ (b : Bool). none && (not b && is_later (top_data t))) is_one
    ∙ ap (λ (b : Bool). none && (not script && b)) is_two

and_no : (b : Bool) → (b && false) ≡ false
and_no true = refl
and_no false = refl

-- there are tables
pub lacks_none : (t : Top) (value none : Bool) → IsApart t → is_some t.tables ≡ not none → none ≡ false → value ≡ false → value ≡ lacks_tables (top_data t)
lacks_none t value none apart has is unset =
    unset
    ∙ sym (lacks_if t none (is_script (top_data t)) (is_later (top_data t)) apart has refl refl
    ∙ ap (λ (b : Bool). b && (not (is_script (top_data t)) && is_later (top_data t))) is)

-- it is a script
pub script_lacks : (t : Top) (value none script : Bool) → IsApart t → is_some t.tables ≡ not none → script ≡ is_script (top_data t) → value ≡ not script
    → value ≡ false → value ≡ lacks_tables (top_data t)
script_lacks t value none script apart has is says unset =
    unset
    ∙ sym (lacks_if t none script (is_later (top_data t)) apart has (sym is) refl
    ∙ ap (λ (b : Bool). none && (b && is_later (top_data t))) (sym says ∙ unset)
    ∙ and_no none)

-- ---- the top that counts

read_by : (d e : Data) (has lacks : Bool) → lacks_tables d ≡ lacks → (if lacks then with_no_tables d else d) ≡ e → has ≡ true → e ≡ read_as has d
read_by d e has lacks is same h =
    sym same ∙ sym (ap (λ (b : Bool). if b then with_no_tables d else d) is) ∙ sym (ap (λ (b : Bool). read_as b d) h)

-- the tables were added
pub read_with : (t : Top) (v : Value) (has lacks : Bool) → lacks_tables (top_data t) ≡ lacks → lacks ≡ true → has ≡ true → view v ≡ array no_items
    → object (with_tables (Some v) (object_data t.members.items)) ≡ read_as has (top_data t)
read_with t v has lacks is does h empty =
    read_by (top_data t) (object (with_tables (Some v) (object_data t.members.items))) has true (is ∙ does)
    (ap (λ (e : Data). object (put (codes "tables") e (top_members t))) (sym empty)
    ∙ ap object (with_new_tables t.tables v (object_data t.members.items))) h

-- the document lacks none
pub read_whole : (d : Data) (has lacks : Bool) → lacks_tables d ≡ lacks → lacks ≡ false → has ≡ true → d ≡ read_as has d
read_whole d has lacks is does h = read_by d d has false (is ∙ does) refl h

-- there is no database
pub read_alone : (d : Data) (has : Bool) → has ≡ false → d ≡ read_as has d
read_alone d has h = sym (ap (λ (b : Bool). read_as b d) h)
