-- The numbers that a script gives tables, found from its tree.
use Rattle.std.specs.Prelude.{◌≡◌, ℕ, ℤ, List, [], map, false, codes, Option, Some, None, option_and_then, if◌then◌else◌}
use Rattle.std.specs.List.{AllByRecursion}
use Rattle.std.specs.Option.{option_zip}
use Rattle.serde_json.specs.Data.{Data, Items, no_items, item}
use Rattle.serde_json.specs.Find.{as_array, as_str, get}
use Rattle.dl_values.specs.Key.{table_bytes}
use Rattle.dl_values.specs.TableLimits.{repeats}
use Rattle.dl_source.specs.Faults.{is_sized}
use Rattle.dl_source.specs.Spelling.{whole}
use Rattle.dl_source.specs.declared.table_number.TableNumber.{TableNumber}
use Rattle.dl_terms.specs.TermAnswers.{both}
use Rattle.dl_documents.specs.Reading.{two_in}
use Rattle.dl_documents.specs.Terms.{IsTableName}
use Rattle.dl_documents.specs.declared.head.Version.{Version}
use Rattle.dl_documents.specs.declared.head.Version.TheVariants.{First, Second}

-- ---- tables with numbers

abbrev pub numbered : List ℕ → ℤ → TableNumber
numbered table number = record { table = table; number = number }

-- the tables, each with its number
abbrev pub named : List TableNumber → List (List ℕ × ℤ)
named ns = map (λ n. (n.table, n.number)) ns

-- the tables have names of tables, and none is there twice
pub record AreNamed (ns : List TableNumber) : Type 0 where
  pub names : AllByRecursion (λ n. IsTableName n.table) ns
  pub once : repeats (named ns) ≡ false

-- ---- the list of a script

abbrev pub number_of : List ℕ × ℤ → Option TableNumber
number_of p = if is_sized table_bytes p.0 then Some (numbered p.0 p.1) else None

abbrev pub with_number : Data × Data → Option TableNumber
with_number p = option_and_then number_of (option_zip (as_str p.0) (whole p.1))

-- the table and the number of a list of a table's name and a whole number
abbrev pub table_number_in : Data → Option TableNumber
table_number_in d = option_and_then with_number (two_in d)

abbrev pub numbers_listed : Items → Option (List TableNumber)
numbers_listed no_items = Some []
numbers_listed (item d ds) = both (table_number_in d) (numbers_listed ds)

-- the tables and numbers of a list of such lists
abbrev pub table_numbers_in : Data → Option (List TableNumber)
table_numbers_in d = option_and_then numbers_listed (as_array d)

-- no table is there twice
abbrev pub once_each : List TableNumber → Option (List TableNumber)
once_each ns = if repeats (named ns) then None else Some ns

abbrev pub numbers_or_none : Option Data → Option (List TableNumber)
numbers_or_none None = Some []
numbers_or_none (Some d) = option_and_then once_each (table_numbers_in d)

-- the numbers of tables under `tableLimits`, or none if there is no such member
abbrev pub listed_numbers : Data → Option (List TableNumber)
listed_numbers d = numbers_or_none (get (codes "tableLimits") d)

-- the numbers that a script gives tables: in version 1 none
abbrev pub script_numbers : Version → Data → Option (List TableNumber)
script_numbers First d = Some []
script_numbers Second d = listed_numbers d
