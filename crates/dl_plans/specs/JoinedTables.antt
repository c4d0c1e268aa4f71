-- The tables that answer a plan file: its own, and those of a database.
use Rattle.std.specs.Prelude.{◌≡◌, ℕ, List, ◌++◌, Bool, false, ◌||◌, codes, bytes_eq, Option, Some, None, option_and_then, String}
use Rattle.std.specs.Option.{option_map_or}
use Rattle.std.specs.HashSet.{HashSet, contains_text}
use Rattle.std.specs.declared.alloc.Global.{Global}
use Rattle.serde_json.specs.Data.{Data, Items, no_items, item}
use Rattle.serde_json.specs.Find.{get, as_str}
use Rattle.dl_values.specs.TableLimits.{lists}
use Rattle.dl_source.specs.Tables.{Tables}
use Rattle.dl_documents.specs.Document.{items_at}
use Rattle.dl_documents.specs.declared.input.Input.{Input}
use Rattle.dl_documents.specs.declared.input.Input.TheVariants as input

-- the tables of the plan file, and behind them those of the database: of two with one name the first counts
abbrev pub joined : Tables → Option Tables → Tables
joined own None = own
joined own (Some database) = own ++ database

-- ---- the names of a plan file's tables

-- whether a table as a document lists it has this name
abbrev pub is_named : List ℕ → Data → Bool
is_named name table = option_map_or (bytes_eq name) (option_and_then as_str (get (codes "name") table)) false

abbrev pub any_named : List ℕ → Items → Bool
any_named name no_items = false
any_named name (item table tables) = is_named name table || any_named name tables

-- whether a document lists a table of this name
abbrev pub lists_table : List ℕ → Data → Bool
lists_table name document = option_map_or (any_named name) (items_at (codes "tables") document) false

module _ {S : Type 0} where
  -- the names are those of the tables
  abbrev pub AreNames : HashSet (String Global) S → Tables → Type 0
  AreNames names tables = (name : List ℕ) → contains_text names name ≡ lists name tables

  -- if the document is a plan file, the names are those of its tables
  abbrev pub HasNames : Input → HashSet (String Global) S → Type 0
  HasNames (input.Script s) names = Unit {0}
  HasNames (input.Plans file) names = AreNames names file.tables
