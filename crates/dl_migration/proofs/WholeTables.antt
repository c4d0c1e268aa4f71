-- No number of the tree of tables is a float, where reading takes them.
use Rattle.std.proofs.Common.{◌≡◌, refl, sym, ap, subst, ◌∙◌, inl, inr, ℕ, ℤ, List, [], ◌∷◌, ◌++◌, Bool, true, false, codes, Option, Some, None, option_map, option_and_then, bytes_eq}
use Rattle.std.proofs.lemmas.Bool.{or_parts, or_from, false_from_ne_true}
use Rattle.std.proofs.lemmas.List.Folds.{list_any-append}
use Rattle.std.proofs.lemmas.Option.{none-some, same_Some}
use Rattle.std.specs.List.{list_any}
use Rattle.serde_json.specs.Data.{Data, string, Items, no_items, item}
use Rattle.serde_json.specs.Find.{get, as_str}
use Rattle.serde_json.specs.Written.{has_float, items_have_float}
use Rattle.dl_source.specs.declared.tables.Finding.{Finding}
use Rattle.dl_source.specs.declared.tables.Finding.TheVariants.{Row, Error, Break}
use Rattle.dl_source.specs.declared.fault.TableFault.{TableFault}
use Rattle.dl_source.specs.declared.fault.TableFault.TheVariants.{NotWhole}
use Rattle.dl_source.specs.Faults.{Causes, is_not_whole, has_other_number}
use Rattle.dl_source.specs.NumberedTables.{NumberedTable, table_of, tables_of}
use Rattle.dl_source.specs.Spelling.{SpellsEach, SpellsList, SpellsMember, SpellsOptional, SpellsFinding, SpellsTable, SpellsNumberedTable, SpellsNumber, Spells}
use Rattle.dl_source.specs.Spelling.{SpellsNumbered, SpellsWithNumbers, row_of, error_of, break_text_of, is_table_member, is_numbered_member, whole}
use Rattle.dl_source.specs.declared.table_number.TableNumber.{TableNumber}
use Rattle.dl_source.specs.Tables.{Table, Tables}
use Rattle.dl_source.proofs.Spelling.{map_some, string_of}
use Rattle.dl_migration.proofs.SortedTrees.{IsSorted, AreSorted}
use Rattle.dl_migration.proofs.WholeMembers.{whole_object, of_four, of_two, under, whole_number}

-- some finding is a row with a number that isn't whole
abbrev has_other : Table → Bool
has_other es = list_any (λ e. is_not_whole e.1) es

-- ---- what stands beside an id

whole_row : (v : Data) (x : Finding) → row_of v ≡ Some x → is_not_whole x ≡ false → has_float v ≡ false
whole_row v x is none = subst (λ (y : Finding). is_not_whole y ≡ false) (sym (same_Some (Row v) x is)) none

whole_text : (form : List ℕ → Finding) (v : Data) (x : Finding) → option_map form (as_str v) ≡ Some x → is_not_whole x ≡ false → has_float v ≡ false
whole_text form v x is none = let p = map_some form (as_str v) x is in ap has_float (string_of v p.0 p.1)

-- ---- lists of findings of one kind

module _ (finding_of : Data → Option Finding)
    (whole_value : (v : Data) (x : Finding) → finding_of v ≡ Some x → is_not_whole x ≡ false → has_float v ≡ false) where
  whole_finding : (d : Data) (e : List ℕ × Finding) → SpellsFinding finding_of d e → is_not_whole e.1 ≡ false → has_float d ≡ false
  whole_finding d e s none = ap has_float s.1 ∙ or_from (has_float s.0) false (whole_value s.0 e.1 s.2 none) refl

  whole_findings : (ds : Items) (es : Table) → SpellsEach (SpellsFinding finding_of) ds es → has_other es ≡ false → items_have_float ds ≡ false
  whole_findings no_items [] s none = refl
  whole_findings no_items (e ∷ es) s none = absurd s
  whole_findings (item d ds) [] s none = absurd s
  whole_findings (item d ds) (e ∷ es) s none =
      let p = or_parts (is_not_whole e.1) (has_other es) none in
      or_from (has_float d) (items_have_float ds) (whole_finding d e s.0 p.0) (whole_findings ds es s.1 p.1)

  whole_list : (d : Data) (es : Table) → SpellsList (SpellsFinding finding_of) d es → has_other es ≡ false → has_float d ≡ false
  whole_list d es s none = ap has_float s.1 ∙ whole_findings s.0 es s.2 none

  whole_member : (m : Option Data) (es : Table) (d : Data) → SpellsMember (SpellsFinding finding_of) m es → has_other es ≡ false
      → m ≡ Some d → has_float d ≡ false
  whole_member m es d s none is = subst (λ (e : Data). has_float e ≡ false) (same_Some s.0 d (sym s.1 ∙ is)) (whole_list s.0 es s.2 none)

  whole_optional : (m : Option Data) (es : Table) (d : Data) → SpellsOptional (SpellsFinding finding_of) m es → has_other es ≡ false
      → m ≡ Some d → has_float d ≡ false
  whole_optional m es d (inl s) none is = absurd (none-some d (sym s.0 ∙ is))
  whole_optional m es d (inr s) none is = whole_member m es d s none is

-- ---- tables

-- what is found under the name of a table's member
table_found : (is_member : List ℕ → Bool) (d : Data) (t : List ℕ × Table) → SpellsTable is_member d t → has_other t.1 ≡ false
    → (k : List ℕ) (e : Data) → get k d ≡ Some e → is_table_member k ≡ true → has_float e ≡ false
table_found is_member d t s none k e is known =
    let all : has_other (s.rows ++ s.errors ++ s.breaks) ≡ false = ap has_other (sym s.all) ∙ none in
    let both = or_parts (has_other (s.rows ++ s.errors)) (has_other s.breaks)
    (sym (list_any-append (λ (e : List ℕ × Finding). is_not_whole e.1) (s.rows ++ s.errors) s.breaks) ∙ all) in
    let front = or_parts (has_other s.rows) (has_other s.errors)
    (sym (list_any-append (λ (e : List ℕ × Finding). is_not_whole e.1) s.rows s.errors) ∙ both.0) in
    of_four {P = has_float e ≡ false} (bytes_eq k (codes "name")) (bytes_eq k (codes "rows")) (bytes_eq k (codes "errors")) (bytes_eq k (codes "breaks")) known
    (λ same. ap has_float (sym (same_Some (string t.0) e (sym s.name ∙ under k (codes "name") d e same is))))
    (λ same. whole_member row_of whole_row (get (codes "rows") d) s.rows e s.rows_are front.0 (under k (codes "rows") d e same is))
    (λ same. whole_optional error_of (whole_text Error) (get (codes "errors") d) s.errors e s.errors_are front.1 (under k (codes "errors") d e same is))
    (λ same. whole_optional break_text_of (whole_text Break) (get (codes "breaks") d) s.breaks e s.breaks_are both.1 (under k (codes "breaks") d e same is))

whole_table : (d : Data) (t : List ℕ × Table) → IsSorted d → SpellsTable is_table_member d t → has_other t.1 ≡ false → has_float d ≡ false
whole_table d t sorted s none = whole_object is_table_member d sorted s.members (table_found is_table_member d t s none)

whole_each : (ds : Items) (ts : Tables) → AreSorted ds → SpellsEach (SpellsTable is_table_member) ds ts → has_other_number ts ≡ false
    → items_have_float ds ≡ false
whole_each no_items [] sorted s none = refl
whole_each no_items (t ∷ ts) sorted s none = absurd s
whole_each (item d ds) [] sorted s none = absurd s
whole_each (item d ds) (t ∷ ts) sorted s none =
    let p = or_parts (has_other t.1) (has_other_number ts) none in
    or_from (has_float d) (items_have_float ds) (whole_table d t sorted.0 s.0 p.0) (whole_each ds ts sorted.1 s.1 p.1)

pub whole_tables : (d : Data) (ts : Tables) → IsSorted d → Spells d ts → ((f : TableFault) → Causes Spells d f → ⊥) → has_float d ≡ false
whole_tables d ts sorted s lawful =
    let none : has_other_number ts ≡ false = false_from_ne_true (has_other_number ts) (λ bad. lawful NotWhole (ts, s, bad)) in
    ap has_float s.1 ∙ whole_each s.0 ts (subst IsSorted s.1 sorted) s.2 none

-- ---- tables that may have numbers

number_found : (m : Option Data) (number : Option ℤ) (e : Data) → SpellsNumber m number → m ≡ Some e → has_float e ≡ false
number_found m None e absent is = absurd (none-some e (sym absent ∙ is))
number_found m (Some z) e gives is = whole_number e z (sym (ap (option_and_then whole) is) ∙ gives)

whole_numbered_table : (d : Data) (t : NumberedTable) → IsSorted d → SpellsNumberedTable d t → has_other (table_of t).1 ≡ false → has_float d ≡ false
whole_numbered_table d t sorted s none =
    whole_object is_numbered_member d sorted s.table.members (λ k e is known.
    of_two {P = has_float e ≡ false} (is_table_member k) (bytes_eq k (codes "maxBatchSize")) known
    (table_found is_numbered_member d (table_of t) s.table none k e is)
    (λ same. number_found (get (codes "maxBatchSize") d) t.number e s.number (under k (codes "maxBatchSize") d e same is)))

whole_each_numbered : (ds : Items) (ts : List NumberedTable) → AreSorted ds → SpellsEach SpellsNumberedTable ds ts → has_other_number (tables_of ts) ≡ false
    → items_have_float ds ≡ false
whole_each_numbered no_items [] sorted s none = refl
whole_each_numbered no_items (t ∷ ts) sorted s none = absurd s
whole_each_numbered (item d ds) [] sorted s none = absurd s
whole_each_numbered (item d ds) (t ∷ ts) sorted s none =
    let p = or_parts (has_other (table_of t).1) (has_other_number (tables_of ts)) none in
    or_from (has_float d) (items_have_float ds) (whole_numbered_table d t sorted.0 s.0 p.0) (whole_each_numbered ds ts sorted.1 s.1 p.1)

pub whole_numbered_tables : (d : Data) (ts : Tables) (numbers : List TableNumber) → IsSorted d → SpellsNumbered d ts numbers
    → ((f : TableFault) → Causes SpellsWithNumbers d f → ⊥) → has_float d ≡ false
whole_numbered_tables d ts numbers sorted s lawful =
    let none : has_other_number ts ≡ false = false_from_ne_true (has_other_number ts) (λ bad. lawful NotWhole (ts, (numbers, s), bad)) in
    ap has_float s.list.1
    ∙ whole_each_numbered s.list.0 s.listed (subst IsSorted s.list.1 sorted) s.list.2 (ap has_other_number (sym s.tables_are) ∙ none)
