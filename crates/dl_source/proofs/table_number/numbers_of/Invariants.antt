-- The numbers so far, and then those of the other tables, are all of them.
use Rattle.std.proofs.Common.{◌≡◌, ◌++◌, drop}
use Rattle.dl_source.specs.NumberedTables.{numbers_of}
use Rattle.dl_source.proofs.table_number.numbers_of.Given as goal

abbrev pub invariant-loop-table : goal.invariant-loop-table
invariant-loop-table l = l.numbers.items ++ numbers_of (drop l.table-index l.tables) ≡ numbers_of l.tables
