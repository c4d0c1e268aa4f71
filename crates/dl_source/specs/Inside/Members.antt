-- The members of a table, each as its object has it.
use Rattle.std.specs.Prelude.{◌≡◌, codes, true, option_map}
use Rattle.serde_json.specs.Data.{Data}
use Rattle.serde_json.specs.Find.{get}
use Rattle.serde_json.specs.View.{view}
use Rattle.dl_source.specs.declared.table_members.TableMembers.{TableMembers}
use Rattle.dl_source.specs.declared.table_reader.Version.{Version}
use Rattle.dl_source.specs.Spelling.{has_only}
use Rattle.dl_source.specs.Inside.Reading.{is_member_of}

-- these members of the tree
pub record AreMembers (d : Data) (m : TableMembers) : Type 0 where
  pub name : option_map view m.name ≡ get (codes "name") d
  pub number : option_map view m.number ≡ get (codes "maxBatchSize") d
  pub rows : option_map view m.rows ≡ get (codes "rows") d
  pub errors : option_map view m.errors ≡ get (codes "errors") d
  pub breaks : option_map view m.breaks ≡ get (codes "breaks") d

-- these members of the tree, which has no others than a table may have
pub record AreTableMembers (version : Version) (d : Data) (m : TableMembers) : Type 0 where
  pub only : has_only (is_member_of version) d ≡ true
  pub members : AreMembers d m
