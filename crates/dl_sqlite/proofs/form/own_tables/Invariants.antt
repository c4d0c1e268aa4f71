-- The tables so far and those of the rest are all, and all have the form if the rest do.
use Rattle.std.proofs.Common.{◌≡◌, ◌++◌, true, drop}
use Rattle.std.specs.List.{AllByRecursion}
use Rattle.dl_sqlite.specs.Form.{has_form, own_tables}
use Rattle.dl_sqlite.proofs.form.own_tables.Given as goal

abbrev pub invariant-loop-table : goal.invariant-loop-table
invariant-loop-table l = record {
  tables : l.own.items ++ own_tables (drop l.table-index l.tables) ≡ own_tables l.tables;
  form : AllByRecursion (λ t. has_form t ≡ true) (own_tables (drop l.table-index l.tables)) → AllByRecursion (λ t. has_form t ≡ true) (own_tables l.tables);
}
