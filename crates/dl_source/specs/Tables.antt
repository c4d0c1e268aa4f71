-- Tables as contracts see them.
use Rattle.std.specs.Prelude.{ℕ, List, map, String, string_bytes}
use Rattle.std.specs.declared.alloc.Global.{Global}
use Rattle.std.specs.Coded.{Coded, coded_ℕ, coded_list, coded×}
use Rattle.dl_source.specs.declared.tables.Finding.{Finding}
use Rattle.dl_source.specs.contracts.tables.Finding as finding

-- what a table lists under its ids, in the order of its document
abbrev pub Table : Type 0
Table = List (List ℕ × Finding)

-- tables with their names, in the order of their document
abbrev pub Tables : Type 0
Tables = List (List ℕ × Table)

-- the findings of a map with the texts of their keys
abbrev pub named : {X : Type 0} → List (String Global × X) → List (List ℕ × X)
named es = map (λ e. (string_bytes e.0, e.1)) es

-- the codes of these, by which a proof distinguishes two
abbrev pub finding_code : Coded (List ℕ × Finding)
finding_code = coded× (coded_list coded_ℕ) finding.the_row.coded

abbrev pub table_code : Coded Table
table_code = coded_list finding_code

abbrev pub named_table_code : Coded (List ℕ × Table)
named_table_code = coded× (coded_list coded_ℕ) table_code

abbrev pub tables_code : Coded Tables
tables_code = coded_list named_table_code
