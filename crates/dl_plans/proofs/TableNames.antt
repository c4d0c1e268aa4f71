-- The names of a plan file's tables.
use Rattle.std.proofs.Common.{◌≡◌, ℕ, ◌+◌, ◌<◌, List, [], ◌∷◌, Bool, true, false, not, cond, ◌&&◌, ◌||◌, Option, Some, None, option_and_then, if◌then◌else◌}
use Rattle.std.proofs.Common.{ap, sym, refl, ◌∙◌, drop, length, get_or, bytes_eq, String, codes}
use Rattle.std.specs.HashSet.{HashSet, contains_text}
use Rattle.std.specs.List.{list_any}
use Rattle.std.specs.Option.{IfSome, is_none, option_map_or}
use Rattle.std.specs.declared.alloc.Global.{Global}
use Rattle.std.proofs.lemmas.List.{drop_more}
use Rattle.serde_json.proofs.Views.{get_member-put}
use Rattle.serde_json.specs.Data.{Data, Items, no_items, item, string, array, object}
use Rattle.serde_json.specs.Find.{get, as_str, as_array}
use Rattle.serde_json.specs.View.{view, items_view}
use Rattle.serde_json.specs.declared.value.Value.{Value}
use Rattle.dl_values.specs.TableLimits.{lists}
use Rattle.dl_values.proofs.Repeats.{bytes_eq-comm}
use Rattle.dl_source.specs.NumberedTables.{NumberedTable, tables_of}
use Rattle.dl_source.specs.Spelling.{SpellsEach, SpellsTable, SpellsNumberedTable, is_table_member}
use Rattle.dl_source.specs.Tables.{Tables}
use Rattle.dl_source.specs.declared.table_number.TableNumber.{TableNumber}
use Rattle.dl_documents.proofs.Findings.{both_true}
use Rattle.dl_documents.specs.Document.{Spells, SpellsPlans, is_script}
use Rattle.dl_documents.specs.OverDatabase.{is_later, lacks_tables, over_database, with_no_tables}
use Rattle.dl_documents.specs.OwnLimits.{TableLimits, version_by}
use Rattle.dl_documents.specs.Tables.{SpellsNumbers}
use Rattle.dl_documents.specs.declared.input.Input.{Input}
use Rattle.dl_documents.specs.declared.input.Input.TheVariants as input
use Rattle.dl_documents.specs.declared.input.PlanFile.{PlanFile}
use Rattle.dl_plans.specs.JoinedTables.{is_named, any_named, lists_table, HasNames}

-- ---- the names in a document

-- items that spell tables have their names
named_each : {X : Type 0} (S : Data → X → Type 0) (name_of : X → List ℕ) → ((d : Data) (x : X) → S d x → get (codes "name") d ≡ Some (string (name_of x)))
    → (name : List ℕ) (ds : Items) (xs : List X) → SpellsEach S ds xs → any_named name ds ≡ list_any (λ x. bytes_eq name (name_of x)) xs
named_each S name_of has name no_items [] each = refl
named_each S name_of has name no_items (x ∷ xs) each = absurd each
named_each S name_of has name (item d ds) [] each = absurd each
named_each S name_of has name (item d ds) (x ∷ xs) each =
    ap (λ (t : Option Data). option_map_or (bytes_eq name) (option_and_then as_str t) false || any_named name ds) (has d x each.0)
    ∙ ap (λ (b : Bool). bytes_eq name (name_of x) || b) (named_each S name_of has name ds xs each.1)

-- tables have their names without their numbers too
named_again : (name : List ℕ) (ts : List NumberedTable) → list_any (λ t. bytes_eq name t.name) ts ≡ lists name (tables_of ts)
named_again name [] = refl
named_again name (t ∷ ts) = ap (λ (b : Bool). bytes_eq name t.name || b) (named_again name ts)

named_tables : (limited : Option TableLimits) (tree : Data) (tables : Tables) (numbers : List TableNumber)
    → SpellsNumbers (version_by limited) tree tables numbers → (name : List ℕ) → option_map_or (any_named name) (as_array tree) false ≡ lists name tables
named_tables None tree tables numbers spelled name =
    let list = spelled.0 in
    ap (λ (d : Data). option_map_or (any_named name) (as_array d) false) list.1
    ∙ named_each (SpellsTable is_table_member) (λ t. t.0) (λ d t is. is.name) name list.0 tables list.2
named_tables (Some limits) tree tables numbers spelled name =
    let list = spelled.list in
    ap (λ (d : Data). option_map_or (any_named name) (as_array d) false) list.1
    ∙ named_each SpellsNumberedTable (λ t. t.name) (λ d t is. is.table.name) name list.0 spelled.listed list.2
    ∙ named_again name spelled.listed
    ∙ ap (lists name) (sym spelled.tables_are)

named_file : (d : Data) (f : PlanFile) → SpellsPlans d f → (name : List ℕ) → lists_table name d ≡ lists name f.tables
named_file d f spelled name =
    let tables = spelled.tables in
    ap (λ (m : Option Data). option_map_or (any_named name) (option_and_then as_array m) false) tables.member
    ∙ named_tables f.table_limits tables.tree f.tables tables.given tables.spelled name

-- ---- a document without tables

is_none_of : {A : Type 0} (o : Option A) → is_none o ≡ true → o ≡ None
is_none_of None h = refl
is_none_of (Some x) h = cc

-- a document without the member lists none
lists_nothing : (name : List ℕ) (d : Data) → get (codes "tables") d ≡ None → lists_table name d ≡ false
lists_nothing name d e = ap (λ (m : Option Data). option_map_or (any_named name) (option_and_then as_array m) false) e

-- nor does one to which an empty list is added
lists_no_more : (name : List ℕ) (d : Data) → get (codes "tables") d ≡ None → lists_table name (with_no_tables d) ≡ lists_table name d
lists_no_more name (object ms) e =
    ap (λ (m : Option Data). option_map_or (any_named name) (option_and_then as_array m) false) (get_member-put (codes "tables") (array no_items) ms)
    ∙ sym (lists_nothing name (object ms) e)
lists_no_more name d e = refl

lists_if : (name : List ℕ) (d : Data) (lacks : Bool) → lacks_tables d ≡ lacks
    → lists_table name (if lacks then with_no_tables d else d) ≡ lists_table name d
lists_if name d false h = refl
lists_if name d true h =
    lists_no_more name d (is_none_of (get (codes "tables") d) (both_true (is_none (get (codes "tables") d)) (not (is_script d) && is_later d) h).0)

lists_as : (name : List ℕ) (d : Data) → lists_table name (over_database d) ≡ lists_table name d
lists_as name d = lists_if name d (lacks_tables d) refl

module _ {S : Type 0} (names : HashSet (String Global) S) where
  -- the names that a document lists are those of its tables
  pub names_of_tables : (d : Data) (i : Input) → Spells (over_database d) i → ((name : List ℕ) → contains_text names name ≡ lists_table name d)
      → HasNames i names
  names_of_tables d (input.Script s) spelled are = tt
  names_of_tables d (input.Plans f) spelled are = λ name. are name ∙ sym (lists_as name d) ∙ named_file (over_database d) f spelled name

-- ---- names that are added

or_false : (b : Bool) → (b || false) ≡ b
or_false true = refl
or_false false = refl

or_next : (a b c : Bool) → ((a || b) || c) ≡ (a || (b || c))
or_next true b c = refl
or_next false b c = refl

cond_or : (a b : Bool) → cond a true b ≡ (b || a)
cond_or true true = refl
cond_or true false = refl
cond_or false true = refl
cond_or false false = refl

module _ (name : List ℕ) (table : Data) where
  -- the name of a table is added
  pub added : (its : List ℕ) (before now : Bool) → Some its ≡ option_and_then as_str (get (codes "name") table) → now ≡ cond (bytes_eq its name) true before
      → now ≡ (before || is_named name table)
  added its before now has is =
      is ∙ cond_or (bytes_eq its name) before
      ∙ ap (λ (b : Bool). before || b) (bytes_eq-comm its name ∙ ap (λ (o : Option (List ℕ)). option_map_or (bytes_eq name) o false) has)

  -- it has none
  pub not_added : (before : Bool) → None ≡ option_and_then as_str (get (codes "name") table) → before ≡ (before || is_named name table)
  not_added before none =
      sym (or_false before) ∙ ap (λ (o : Option (List ℕ)). before || option_map_or (bytes_eq name) o false) none

module _ (name : List ℕ) (tables : List Value) (i : ℕ) (t : Value) (lt : i < length tables) (is : t ≡ get_or tables i t) where
  here : any_named name (items_view (drop i tables)) ≡ (is_named name (view t) || any_named name (items_view (drop (i + 1) tables)))
  here =
      ap (λ (vs : List Value). any_named name (items_view vs)) (drop_more tables i t lt)
      ∙ ap (λ (v : Value). is_named name (view v) || any_named name (items_view (drop (i + 1) tables))) (sym is)

  -- the names so far and those to come, after a step
  pub names_go_on : (before now all : Bool) → now ≡ (before || is_named name (view t)) → (before || any_named name (items_view (drop i tables))) ≡ all
      → (now || any_named name (items_view (drop (i + 1) tables))) ≡ all
  names_go_on before now all step so_far =
      ap (λ (b : Bool). b || any_named name (items_view (drop (i + 1) tables))) step
      ∙ or_next before (is_named name (view t)) (any_named name (items_view (drop (i + 1) tables)))
      ∙ sym (ap (λ (b : Bool). before || b) here)
      ∙ so_far

-- no tables are left
pub names_end : (name : List ℕ) (rest : List Value) (now all : Bool) → rest ≡ [] → (now || any_named name (items_view rest)) ≡ all → now ≡ all
names_end name rest now all none so_far = sym (or_false now) ∙ sym (ap (λ (vs : List Value). now || any_named name (items_view vs)) none) ∙ so_far

-- what holds anyhow holds if there is a value
pub if_some : {X : Type 0} (o : Option X) (P : Type 0) → P → IfSome o (λ _. P)
if_some None P h = tt
if_some (Some x) P h = h
