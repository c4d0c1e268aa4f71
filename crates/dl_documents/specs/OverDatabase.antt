-- How a document is read whose keys a database answers too.
use Rattle.std.specs.Prelude.{◌&&◌, ◌||◌, Bool, false, true, not, codes, if◌then◌else◌}
use Rattle.std.specs.Option.{is_none}
use Rattle.serde_json.specs.Data.{Data, array, no_items, object, put}
use Rattle.serde_json.specs.Find.{get}
use Rattle.dl_documents.specs.Document.{has_number, is_script}

-- the number of the version is 2 or 3
abbrev pub is_later : Data → Bool
is_later d = has_number 2 d || has_number 3 d

-- a plan file of version 2 or 3 without the member `tables`
abbrev pub lacks_tables : Data → Bool
lacks_tables d = is_none (get (codes "tables") d) && (not (is_script d) && is_later d)

-- the same object, with no tables
abbrev pub with_no_tables : Data → Data
with_no_tables (object ms) = object (put (codes "tables") (array no_items) ms)
with_no_tables d = d

-- over a database, a plan file of version 2 or 3 may lack the member `tables`: then it has no tables
abbrev pub over_database : Data → Data
over_database d = if lacks_tables d then with_no_tables d else d

-- the tree that counts in place of the document's
abbrev pub read_as : Bool → Data → Data
read_as false d = d
read_as true d = over_database d
