-- The tables that are read from the bytes of a database's file and of its log.
use Rattle.std.specs.Prelude.{◌≡◌, ℕ, List, [], ◌∷◌, ◌++◌, take, codes, Bool, bytes_eq}
use Rattle.sqlite_wal.specs.Recovery.{Image}
use Rattle.sqlite_trees.specs.Tree.{Trees}
use Rattle.sqlite.specs.Effect.{Database, IsDatabase}
use Rattle.sqlite.specs.Files.{AreFoundIn, HoldsDatabase, IsNothing}
use Rattle.dl_source.specs.Tables.{Tables}
use Rattle.dl_sqlite.specs.Read.{AreRowsOf}

-- the two as SQLite's recovery takes them
abbrev pub image_from : List ℕ → List ℕ → Image
image_from file log = record { log = log; db = file }

-- the file begins as each file of SQLite does
abbrev pub begins_well : List ℕ → Bool
begins_well file = bytes_eq (take 16 file) (codes "SQLite format 3" ++ 0 ∷ [])

-- The file and its log recover to this database: to its trees, and to no others. It obeys its schema, and isn't one that is yet to be made.
pub record RecoversTo (image : Image) (db : Database) : Type 0 where
  pub found : AreFoundIn image db.trees
  pub only : (trees : Trees) → HoldsDatabase image trees → db.trees ≡ trees
  pub sound : IsDatabase db
  pub made : ¬ IsNothing image

-- The tables have the rows of the database to which these bytes of a file and of its log recover.
abbrev pub IsReadFrom : List ℕ → List ℕ → Tables → Type 0
IsReadFrom file log tables = (db : Database) × RecoversTo (image_from file log) db × AreRowsOf db tables

-- the same, of some bytes
abbrev pub IsReadFromSome : Tables → Type 0
IsReadFromSome tables = (file : List ℕ) × (log : List ℕ) × IsReadFrom file log tables
