-- The codes of tables that are refused.
use Rattle.std.specs.Prelude.{ℕ, Option, Some, None}
use Rattle.dl_values.specs.declared.fault.TableLimitFault.{TableLimitFault}
use Rattle.dl_values.specs.declared.fault.TableLimitFault.TheVariants as table
use Rattle.dl_c_values.specs.declared.codes.TheConstants.{DONE, OUT_OF_MEMORY, EMPTY_TABLE, TABLE_TOO_LONG, BAD_TABLE_LIMIT, DUPLICATE_TABLE}

-- the code of tables that are refused
abbrev pub table_code_of : TableLimitFault → ℕ
table_code_of table.EmptyTable = EMPTY_TABLE
table_code_of table.TableTooLong = TABLE_TOO_LONG
table_code_of table.BatchLimit = BAD_TABLE_LIMIT
table_code_of table.DuplicateTable = DUPLICATE_TABLE
table_code_of table.OutOfMemory = OUT_OF_MEMORY

-- the code of tables that nothing refuses, or that a fault does
abbrev pub table_code_by : Option TableLimitFault → ℕ
table_code_by None = DONE
table_code_by (Some fault) = table_code_of fault
