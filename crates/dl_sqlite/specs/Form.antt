-- The form that a table must have: its first column is `id`, a text, and each column is a text or an integer.
use Rattle.std.specs.Prelude.{◌≡◌, ◌&&◌, ℕ, List, [], ◌∷◌, take, filter, codes, Bool, true, false, not, None, bytes_eq}
use Rattle.std.specs.List.{AllByRecursion, list_all}
use Rattle.sqlite_schema.specs.declared.schema.Kind.{Kind}
use Rattle.sqlite_schema.specs.declared.schema.Kind.TheVariants.{Integer, Real, Text, Blob, Any}
use Rattle.sqlite_schema.specs.declared.schema.Column.{Column}
use Rattle.sqlite_schema.specs.declared.schema.Table.{Table}
use Rattle.sqlite_schema.specs.declared.schema.Schema.{Schema}

-- ---- columns

abbrev pub is_text : Kind → Bool
is_text Text = true
is_text Integer = false
is_text Real = false
is_text Blob = false
is_text Any = false

-- a kind that has JSON
abbrev pub has_json_kind : Kind → Bool
has_json_kind Text = true
has_json_kind Integer = true
has_json_kind Real = false
has_json_kind Blob = false
has_json_kind Any = false

-- ---- tables

abbrev pub starts_with_id : List Column → Bool
starts_with_id [] = false
starts_with_id (c ∷ cs) = bytes_eq c.name (codes "id") && is_text c.kind

abbrev pub has_form : Table → Bool
has_form t = starts_with_id t.columns && list_all (λ c. has_json_kind c.kind) t.columns

-- ---- schemas

-- a table that SQLite keeps for itself
abbrev pub is_internal : List ℕ → Bool
is_internal name = bytes_eq (take 7 name) (codes "sqlite_")

-- the tables of the database, without SQLite's own
abbrev pub own_tables : List Table → List Table
own_tables tables = filter (λ t. not (is_internal t.name)) tables

-- Each table of the schema but SQLite's own has this form, and nothing is kept unread: no table, no index and no trigger.
pub record IsReadable (schema : Schema) : Type 0 where
  pub form : AllByRecursion (λ t. has_form t ≡ true) (own_tables schema.tables)
  pub known : AllByRecursion (λ v. v.foreign ≡ None) schema.views
