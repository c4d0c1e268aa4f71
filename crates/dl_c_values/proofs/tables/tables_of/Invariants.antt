use Rattle.dl_c_values.specs.Tables.{IsNamed, front_table, name_width}
use Rattle.dl_c_values.specs.declared.codes.TheConstants.{BAD_TEXT}
use Rattle.dl_c_values.proofs.Cuts.{CutTo}
use Rattle.dl_c_values.proofs.tables.tables_of.Given as goal

abbrev pub invariant-loop-table : goal.invariant-loop-table
invariant-loop-table l = CutTo name_width front_table IsNamed BAD_TEXT l.fn.names l.tables l.table-index l.list.items l.rest
