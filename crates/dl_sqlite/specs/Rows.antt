-- The JSON of the rows that a database holds.
use Rattle.std.specs.Prelude.{ℕ, ◌+◌, List, [], ◌∷◌, map, codes, ⊤}
use Rattle.std.specs.List.{AllByRecursion}
use Rattle.serde_json.specs.Data.{Data, null, number, string, array, object, Members, no_members, member, put}
use Rattle.serde_json.specs.Find.{of_integer}
use Rattle.serde_json.specs.View.{items_of}
use Rattle.sqlite_value.specs.declared.value.Value.{Value}
use Rattle.sqlite_value.specs.declared.value.Value.TheVariants.{Null, Int, Real, Text, Blob}
use Rattle.sqlite_value.specs.Order.{Row, column}
use Rattle.sqlite_trees.specs.Tree.{Trees}
use Rattle.sqlite_schema.specs.Names.{place_of}
use Rattle.sqlite_schema.specs.declared.schema.Column.{Column}
use Rattle.sqlite_schema.specs.declared.schema.Table.{Table}
use Rattle.dl_source.specs.Spelling.{pair}

-- ---- one value

-- a value that has JSON
abbrev pub HasJson : Value → Type 0
HasJson Null = ⊤
HasJson (Int n) = ⊤
HasJson (Text t) = ⊤
HasJson (Real x) = ⊥
HasJson (Blob b) = ⊥

-- its JSON (no row that is read has the last two)
abbrev pub json_of : Value → Data
json_of Null = null
json_of (Int n) = number (of_integer n)
json_of (Text t) = string t
json_of (Real x) = null
json_of (Blob b) = null

abbrev pub IsText : Value → Type 0
IsText Null = ⊥
IsText (Int n) = ⊥
IsText (Text t) = ⊤
IsText (Real x) = ⊥
IsText (Blob b) = ⊥

abbrev pub text_of : Value → List ℕ
text_of Null = []
text_of (Int n) = []
text_of (Text t) = t
text_of (Real x) = []
text_of (Blob b) = []

-- ---- one row

-- the value of a row in this column
abbrev pub value_at : Table → Row → ℕ → Value
value_at t row at = column row (place_of t at)

-- these members, and one for each of the columns from this place on
abbrev pub with_columns : Table → Row → ℕ → List Column → Members → Members
with_columns t row at [] ms = ms
with_columns t row at (c ∷ cs) ms = with_columns t row (at + 1) cs (put c.name (json_of (value_at t row at)) ms)

-- the columns from this place on have values that have JSON
abbrev pub HaveJson : Table → Row → ℕ → List Column → Type 0
HaveJson t row at [] = ⊤
HaveJson t row at (c ∷ cs) = HasJson (value_at t row at) × HaveJson t row (at + 1) cs

-- a row as an object: a member for each column, by the name of the column
abbrev pub row_json : Table → Row → Data
row_json t row = object (with_columns t row 0 t.columns no_members)

-- its id, which is the first column, and the row
abbrev pub entry_json : Table → Row → Data
entry_json t row = pair (text_of (value_at t row 0)) (row_json t row)

-- a row that is read
pub record IsWhole (t : Table) (row : Row) : Type 0 where
  pub id : IsText (value_at t row 0)
  pub values : HaveJson t row 0 t.columns

-- ---- tables

-- a table as a plan file lists it, with these entries
abbrev pub table_json : Table → List Data → Data
table_json t entries = object (member (codes "name") (string t.name) (member (codes "rows") (array (items_of entries)) no_members))

-- the tables with the rows that the trees have for them
abbrev pub tables_json : Trees → List Table → List Data
tables_json trees tables = map (λ t. table_json t (map (entry_json t) (trees t.tree))) tables

abbrev pub AreWhole : Trees → List Table → Type 0
AreWhole trees tables = AllByRecursion (λ t. AllByRecursion (IsWhole t) (trees t.tree)) tables
