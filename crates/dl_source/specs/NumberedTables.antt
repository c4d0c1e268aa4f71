-- Tables that may have a number of their own.
use Rattle.std.specs.Prelude.{ℕ, ℤ, List, map, filter_map, Option, option_map, refl}
use Rattle.std.specs.Coded.{Coded, code_by, coded_ℕ, coded_ℤ, coded_list, coded_option, coded×}
use Rattle.dl_source.specs.Tables.{Table, Tables, table_code}
use Rattle.dl_source.specs.declared.table_number.TableNumber.{TableNumber}

-- a table's name, its number, and what it lists
pub record NumberedTable : Type 0 where
  pub name : List ℕ
  pub number : Option ℤ
  pub findings : Table

abbrev pub numbered : List ℕ → Option ℤ → Table → NumberedTable
numbered name number findings = record { name = name; number = number; findings = findings }

-- the code of these, by which a proof distinguishes two
abbrev pub numbered_table_code : Coded NumberedTable
numbered_table_code =
    code_by (List ℕ × (Option ℤ × Table)) (coded× (coded_list coded_ℕ) (coded× (coded_option coded_ℤ) table_code))
    (λ t. (t.name, (t.number, t.findings))) (λ p. numbered p.0 p.1.0 p.1.1) (λ _. refl)

-- a table without its number
abbrev pub table_of : NumberedTable → List ℕ × Table
table_of t = (t.name, t.findings)

-- the number of a table, with the name of the table
abbrev pub number_of : NumberedTable → Option TableNumber
number_of t = option_map (λ n. record { table = t.name; number = n }) t.number

-- tables without their numbers
abbrev pub tables_of : List NumberedTable → Tables
tables_of ts = map table_of ts

-- the numbers of tables, in their order; a table without one gives none
abbrev pub numbers_of : List NumberedTable → List TableNumber
numbers_of ts = filter_map number_of ts
