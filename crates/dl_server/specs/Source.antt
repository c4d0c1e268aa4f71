-- The tables that answer every request.
use Rattle.std.specs.Prelude.{◌⊎◌, ℕ, List}
use Rattle.serde_json.specs.Data.{Data}
use Rattle.dl_documents.specs.Document.{IsTextOf}
use Rattle.dl_source.specs.Spelling.{Spells}
use Rattle.dl_source.specs.Tables.{Tables}
use Rattle.dl_sqlite.specs.Image.{IsReadFromSome}

-- the bytes are the text of a tree that lists the tables
abbrev pub IsListed : List ℕ → Tables → Type 0
IsListed bytes tables = (d : Data) × IsTextOf bytes d × Spells d tables

-- the tables are listed in some bytes, or read from those of some database
abbrev pub IsSource : Tables → Type 0
IsSource tables = ((bytes : List ℕ) × IsListed bytes tables) ⊎ IsReadFromSome tables
