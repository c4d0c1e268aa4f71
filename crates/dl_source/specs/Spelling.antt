-- Which JSON trees spell which tables.
use Rattle.std.specs.Prelude.{◌≡◌, ◌⊎◌, ℕ, ℤ, List, [], ◌∷◌, ◌++◌, codes, Bool, true, false, ◌&&◌, ◌||◌, Option, Some, None, bytes_eq, ⊤}
use Rattle.std.specs.Prelude.{option_map, option_and_then}
use Rattle.std.specs.Option.{option_map_or}
use Rattle.serde_json.specs.Data.{Data, string, array, Items, no_items, item, Members, no_members, member}
use Rattle.serde_json.specs.Find.{get, as_str, as_object, as_number, as_integer}
use Rattle.dl_source.specs.declared.tables.Finding.{Finding}
use Rattle.dl_source.specs.declared.tables.Finding.TheVariants.{Row, Error, Break}
use Rattle.dl_source.specs.declared.table_number.TableNumber.{TableNumber}
use Rattle.dl_source.specs.Tables.{Table, Tables}
use Rattle.dl_source.specs.NumberedTables.{NumberedTable, table_of, tables_of, numbers_of}

-- ---- lists

-- the items spell the values, one by one
abbrev pub SpellsEach : {X : Type 0} → (Data → X → Type 0) → Items → List X → Type 0
SpellsEach S no_items [] = ⊤
SpellsEach S no_items (x ∷ xs) = ⊥
SpellsEach S (item d ds) [] = ⊥
SpellsEach S (item d ds) (x ∷ xs) = S d x × SpellsEach S ds xs

-- a list whose items spell the values
abbrev pub SpellsList : {X : Type 0} → (Data → X → Type 0) → Data → List X → Type 0
SpellsList S d xs = (ds : Items) × (d ≡ array ds) × SpellsEach S ds xs

-- a member that is such a list
abbrev pub SpellsMember : {X : Type 0} → (Data → X → Type 0) → Option Data → List X → Type 0
SpellsMember S m xs = (d : Data) × (m ≡ Some d) × SpellsList S d xs

-- a member that may be absent, which then spells the empty list
abbrev pub SpellsOptional : {X : Type 0} → (Data → X → Type 0) → Option Data → List X → Type 0
SpellsOptional S m xs = ((m ≡ None) × (xs ≡ [])) ⊎ SpellsMember S m xs

-- ---- findings

-- a list of an id and something more
abbrev pub pair : List ℕ → Data → Data
pair id d = array (item (string id) (item d no_items))

-- what a pair has after its id: any value in a row, a text in an error and in a break
abbrev pub row_of : Data → Option Finding
row_of d = Some (Row d)

abbrev pub error_of : Data → Option Finding
error_of d = option_map Error (as_str d)

abbrev pub break_text_of : Data → Option Finding
break_text_of d = option_map Break (as_str d)

abbrev pub SpellsFinding : (Data → Option Finding) → Data → List ℕ × Finding → Type 0
SpellsFinding finding_of d e = (v : Data) × (d ≡ pair e.0 v) × (finding_of v ≡ Some e.1)

-- ---- tables

-- the names of a table's members
abbrev pub is_table_member : List ℕ → Bool
is_table_member name = bytes_eq name (codes "name") || (bytes_eq name (codes "rows") || (bytes_eq name (codes "errors") || bytes_eq name (codes "breaks")))

-- each name passes the test
abbrev pub names_all : (List ℕ → Bool) → Members → Bool
names_all test no_members = true
names_all test (member name d ms) = test name && names_all test ms

-- an object whose names pass the test
abbrev pub has_only : (List ℕ → Bool) → Data → Bool
has_only test d = option_map_or (names_all test) (as_object d) false

-- A table is an object with a name and rows, and perhaps errors and breaks, and lists them in this order. Its members
-- pass the test by their names.
pub record SpellsTable (is_member : List ℕ → Bool) (d : Data) (t : List ℕ × Table) : Type 0 where
  pub members : has_only is_member d ≡ true
  pub name : get (codes "name") d ≡ Some (string t.0)
  pub rows : Table
  pub errors : Table
  pub breaks : Table
  pub rows_are : SpellsMember (SpellsFinding row_of) (get (codes "rows") d) rows
  pub errors_are : SpellsOptional (SpellsFinding error_of) (get (codes "errors") d) errors
  pub breaks_are : SpellsOptional (SpellsFinding break_text_of) (get (codes "breaks") d) breaks
  pub all : t.1 ≡ rows ++ errors ++ breaks

-- the tree is a list of tables, which have no numbers
abbrev pub Spells : Data → Tables → Type 0
Spells d tables = SpellsList (SpellsTable is_table_member) d tables

-- ---- tables with numbers

-- the names of the members of a table that may have a number
abbrev pub is_numbered_member : List ℕ → Bool
is_numbered_member name = is_table_member name || bytes_eq name (codes "maxBatchSize")

-- a whole number is one that an i64 or a u64 holds
abbrev pub whole : Data → Option ℤ
whole d = option_and_then as_integer (as_number d)

-- a member that may be absent, and then gives no number
abbrev pub SpellsNumber : Option Data → Option ℤ → Type 0
SpellsNumber m None = m ≡ None
SpellsNumber m (Some n) = option_and_then whole m ≡ Some n

-- a table whose number, if it has one, is its member `maxBatchSize`
pub record SpellsNumberedTable (d : Data) (t : NumberedTable) : Type 0 where
  pub table : SpellsTable is_numbered_member d (table_of t)
  pub number : SpellsNumber (get (codes "maxBatchSize") d) t.number

-- the tree is a list of tables that may have numbers: these tables, and these numbers in their order
pub record SpellsNumbered (d : Data) (tables : Tables) (numbers : List TableNumber) : Type 0 where
  pub listed : List NumberedTable
  pub list : SpellsList SpellsNumberedTable d listed
  pub tables_are : tables ≡ tables_of listed
  pub numbers_are : numbers ≡ numbers_of listed

-- the same tables, with whatever numbers
abbrev pub SpellsWithNumbers : Data → Tables → Type 0
SpellsWithNumbers d tables = (numbers : List TableNumber) × SpellsNumbered d tables numbers
