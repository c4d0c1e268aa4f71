-- Numbers of tables, and the limits that they are turned into.
use Rattle.std.specs.Prelude.{◌≡◌, pos, List, [], ◌∷◌, Option}
use Rattle.std.specs.List.{AllByRecursion}
use Rattle.dl_values.specs.Limits.{Limits, IsLimit, IsNoLimit}
use Rattle.dl_values.specs.declared.fault.LimitFault.{LimitFault}
use Rattle.dl_values.specs.declared.fault.LimitFault.TheVariants.{BatchLimit}
use Rattle.dl_values.specs.declared.fault.TableLimitFault.{TableLimitFault}
use Rattle.dl_values.specs.declared.fault.TableLimitFault.TheVariants as table
use Rattle.dl_values.specs.declared.table_limits.TableLimit.{TableLimit}
use Rattle.dl_source.specs.declared.table_number.TableNumber.{TableNumber}
use Rattle.dl_documents.specs.Faults.{IsOutside, HasOutside}
use Rattle.dl_documents.specs.Numbers.{AreLimitsOf, IsInside, IsFirstOutside}
use Rattle.dl_documents.specs.OwnLimits.{TableLimits, version_by, own, AreTheirLimits}
use Rattle.dl_documents.specs.TableNumbers.{AreNamed}
use Rattle.dl_documents.specs.declared.fault.PlanFault.{PlanFault}
use Rattle.dl_documents.specs.declared.fault.PlanFault.TheVariants.{Limit, OutOfMemory}
use Rattle.dl_documents.specs.declared.head.Head.{Head}
use Rattle.dl_documents.specs.declared.head.Version.{Version}
use Rattle.dl_documents.specs.declared.head.Version.TheVariants.{First, Second}
use Rattle.dl_documents.specs.declared.limits.Numbers.{Numbers}

-- the numbers that a document of the version gives tables: in version 1 none
abbrev pub AreOwnNumbers : Version → List TableNumber → Type 0
AreOwnNumbers First ns = ns ≡ []
AreOwnNumbers Second ns = AreNamed ns

-- each number may be a limit
abbrev pub AreInside : List TableNumber → Type 0
AreInside ns = AllByRecursion (λ n. IsInside n.number) ns

-- the same table with the same number, or with one that no limit is where the number is none
pub record IsAsLimit (n : TableNumber) (l : TableLimit) : Type 0 where
  pub table : l.table ≡ n.table
  pub inside : IsLimit l.limit → n.number ≡ pos l.limit
  pub outside : IsNoLimit l.limit → IsOutside n.number

-- the same one by one
abbrev pub AreAsLimits : List TableNumber → List TableLimit → Type 0
AreAsLimits [] [] = Unit {0}
AreAsLimits [] (l ∷ ls) = ⊥
AreAsLimits (n ∷ ns) [] = ⊥
AreAsLimits (n ∷ ns) (l ∷ ls) = IsAsLimit n l × AreAsLimits ns ls

-- the refusal of a document for a fault of its limits of tables: with each table named and none twice only a number is at fault
abbrev pub refusal : TableLimitFault → PlanFault
refusal table.OutOfMemory = OutOfMemory
refusal table.EmptyTable = Limit BatchLimit
refusal table.TableTooLong = Limit BatchLimit
refusal table.BatchLimit = Limit BatchLimit
refusal table.DuplicateTable = Limit BatchLimit

-- the numbers are the limits of tables that a document of the version has
pub record AreOwnLimits (version : Version) (ns : List TableNumber) (tables : Option TableLimits) : Type 0 where
  pub same : version_by tables ≡ version
  pub limits : AreTheirLimits ns (own tables)

-- the numbers of the head are the limits, and those of tables are the tables' own
pub record AreAllLimits (h : Head) (ns : List TableNumber) (p : Limits × Option TableLimits) : Type 0 where
  pub top : AreLimitsOf h.numbers p.0
  pub own : AreOwnLimits h.version ns p.1

-- a table's number is no limit, or else the fault names the first of the three numbers that is none
pub data IsRefusedNumber (n : Numbers) (ns : List TableNumber) (f : PlanFault) : Type 0 where
  TableOutside : f ≡ Limit BatchLimit → HasOutside ns → IsRefusedNumber n ns f
  TopOutside : (l : LimitFault) → f ≡ Limit l → AreInside ns → IsFirstOutside n l → IsRefusedNumber n ns f
