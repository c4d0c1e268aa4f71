-- Tables as documents of each version have them.
use Rattle.std.specs.Prelude.{◌≡◌, List, []}
use Rattle.serde_json.specs.Data.{Data}
use Rattle.dl_source.specs.Faults as table
use Rattle.dl_source.specs.Spelling.{Spells, SpellsNumbered, SpellsWithNumbers}
use Rattle.dl_source.specs.Tables.{Tables}
use Rattle.dl_source.specs.declared.fault.TableFault.{TableFault}
use Rattle.dl_source.specs.declared.table_number.TableNumber.{TableNumber}
use Rattle.dl_documents.specs.declared.head.Version.{Version}
use Rattle.dl_documents.specs.declared.head.Version.TheVariants.{First, Second}

-- the tree spells the tables, which in version 2 may have numbers
abbrev pub SpellsTables : Version → Data → Tables → Type 0
SpellsTables First = Spells
SpellsTables Second = SpellsWithNumbers

-- the tree spells the tables with these numbers; in version 1 there are none
abbrev pub SpellsNumbers : Version → Data → Tables → List TableNumber → Type 0
SpellsNumbers First tree tables numbers = Spells tree tables × (numbers ≡ [])
SpellsNumbers Second tree tables numbers = SpellsNumbered tree tables numbers

-- what in the tree causes a refusal as tables
abbrev pub TableCauses : Version → Data → TableFault → Type 0
TableCauses version = table.Causes (SpellsTables version)

-- the fault has a cause in the tree, and none before it has one
abbrev pub IsTableFault : Version → Data → TableFault → Type 0
IsTableFault version = table.IsLeast (SpellsTables version)
