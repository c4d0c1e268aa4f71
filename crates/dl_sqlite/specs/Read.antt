-- The tables that are read from a database.
use Rattle.serde_json.specs.Data.{array}
use Rattle.serde_json.specs.View.{items_of}
use Rattle.sqlite.specs.Effect.{Database}
use Rattle.dl_source.specs.Spelling.{Spells}
use Rattle.dl_source.specs.Tables.{Tables}
use Rattle.dl_sqlite.specs.Form.{IsReadable, own_tables}
use Rattle.dl_sqlite.specs.Rows.{AreWhole, tables_json}

-- The tables are those of the database, each with all of its rows, in the order of their rowids: they are what this list of
-- tables spells, as it would in a plan file.
pub record AreRowsOf (db : Database) (tables : Tables) : Type 0 where
  pub form : IsReadable db.schema
  pub values : AreWhole db.trees (own_tables db.schema.tables)
  pub spelled : Spells (array (items_of (tables_json db.trees (own_tables db.schema.tables)))) tables
