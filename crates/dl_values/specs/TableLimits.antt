-- Limits that tables have of their own, and which lists of them a loader doesn't take.
use Rattle.std.specs.Prelude.{◌≡◌, ℕ, List, [], ◌∷◌, map, length, Bool, false, not, ◌||◌, ◌&&◌, Option, Some, None, if◌then◌else◌}
use Rattle.std.specs.Prelude.{bytes_eq, nat_eq, nat_lt, nat_le, String, string_bytes}
use Rattle.std.specs.List.{list_any}
use Rattle.std.specs.Map.{lookup}
use Rattle.std.specs.declared.alloc.Global.{Global}
use Rattle.dl_values.specs.Key.{table_bytes}
use Rattle.dl_values.specs.Limits.{IsLimit, largest_limit}
use Rattle.dl_values.specs.declared.fault.TableLimitFault.{TableLimitFault}
use Rattle.dl_values.specs.declared.fault.TableLimitFault.TheVariants.{EmptyTable, TableTooLong, BatchLimit, DuplicateTable}
use Rattle.dl_values.specs.declared.table_limits.TableLimit.{TableLimit}

-- the entries of a map with the texts of their keys
abbrev pub named : {X : Type 0} → List (String Global × X) → List (List ℕ × X)
named es = map (λ e. (string_bytes e.0, e.1)) es

-- the list has the name
abbrev pub lists : {X : Type 0} → List ℕ → List (List ℕ × X) → Bool
lists name es = list_any (λ e. bytes_eq name e.0) es

-- the list has a name twice
abbrev pub repeats : {X : Type 0} → List (List ℕ × X) → Bool
repeats [] = false
repeats (e ∷ es) = lists e.0 es || repeats es

-- tables with their limits
abbrev pub pairs : List TableLimit → List (List ℕ × ℕ)
pairs ts = map (λ t. (t.table, t.limit)) ts

-- both lists give each table the same limit, or none
abbrev pub GiveTheSame : List (List ℕ × ℕ) → List (List ℕ × ℕ) → Type 0
GiveTheSame ts us = (table : List ℕ) → lookup (bytes_eq table) ts ≡ lookup (bytes_eq table) us

-- each number that a table has may be a limit
abbrev pub AreTableLimits : List (List ℕ × ℕ) → Type 0
AreTableLimits ts = (table : List ℕ) (n : ℕ) → lookup (bytes_eq table) ts ≡ Some n → IsLimit n

-- ---- refusals

abbrev pub has_empty_table : List TableLimit → Bool
has_empty_table ts = list_any (λ t. nat_eq (length t.table) 0) ts

abbrev pub has_long_table : List TableLimit → Bool
has_long_table ts = list_any (λ t. nat_lt table_bytes (length t.table)) ts

abbrev pub has_other_limit : List TableLimit → Bool
has_other_limit ts = list_any (λ t. not (nat_le 1 t.limit && nat_le t.limit largest_limit)) ts

-- the first cause of a refusal that applies anywhere in the list
abbrev pub fault_of : List TableLimit → Option TableLimitFault
fault_of ts =
    if has_empty_table ts then Some EmptyTable
    else (if has_long_table ts then Some TableTooLong
    else (if has_other_limit ts then Some BatchLimit else (if repeats (pairs ts) then Some DuplicateTable else None)))
