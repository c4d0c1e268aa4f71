-- The limits that tables have of their own.
use Rattle.std.specs.Prelude.{◌≡◌, ℕ, pos, List, [], map, Option, Some, None}
use Rattle.std.specs.List.{AllByRecursion}
use Rattle.dl_values.specs.Limits.{IsLimit}
use Rattle.dl_values.specs.TableLimits.{GiveTheSame}
use Rattle.dl_source.specs.declared.table_number.TableNumber.{TableNumber}
use Rattle.dl_documents.specs.TableNumbers.{numbered}
use Rattle.dl_documents.specs.declared.head.Version.{Version}
use Rattle.dl_documents.specs.declared.head.Version.TheVariants.{First, Second}

-- tables, each with its limit
abbrev pub TableLimits : Type 0
TableLimits = List (List ℕ × ℕ)

-- a document that has limits of tables, even if for no table, has version 2
abbrev pub version_by : Option TableLimits → Version
version_by None = First
version_by (Some tables) = Second

-- the tables that have a limit of their own: in version 1 none
abbrev pub own : Option TableLimits → TableLimits
own None = []
own (Some tables) = tables

-- tables with limits, as tables with numbers
abbrev pub as_numbers : TableLimits → List TableNumber
as_numbers tables = map (λ t. numbered t.0 (pos t.1)) tables

-- each of the numbers is a limit, and the tables have these limits
pub record AreTheirLimits (ns : List TableNumber) (tables : TableLimits) : Type 0 where
  pub listed : TableLimits
  pub numbers : ns ≡ as_numbers listed
  pub limits : AllByRecursion (λ t. IsLimit t.1) listed
  pub same : GiveTheSame tables listed
