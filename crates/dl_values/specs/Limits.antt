-- The limits of a loader, and how it makes its batches.
use Rattle.std.specs.Prelude.{◌≡◌, ℕ, ◌<◌, ◌≤◌, ◌⊎◌, List, Option, Some, None, unwrap_or, bytes_eq}
use Rattle.std.specs.Map.{lookup}
use Rattle.dl_values.specs.declared.fault.LimitFault.{LimitFault}
use Rattle.dl_values.specs.declared.fault.LimitFault.TheVariants.{BatchLimit, CellLimit, CallLimit}

-- the limits of a loader: the most keys of a batch, the most cells and the most calls
pub record Limits : Type 0 where
  pub max_batch : ℕ
  pub max_cells : ℕ
  pub max_calls : ℕ

-- the largest number that a limit may be
abbrev pub largest_limit : ℕ
largest_limit = 65536

-- a number that a limit may be
pub record IsLimit (n : ℕ) : Type 0 where
  pub least : 1 ≤ n
  pub most : n ≤ largest_limit

-- a number that can't be a limit
abbrev pub IsNoLimit : ℕ → Type 0
IsNoLimit n = (n ≡ 0) ⊎ (largest_limit < n)

-- each of the three numbers may be a limit
pub record AreLimits (l : Limits) : Type 0 where
  pub batch : IsLimit l.max_batch
  pub cells : IsLimit l.max_cells
  pub calls : IsLimit l.max_calls

-- the fault names the first of the three numbers that can't be a limit
abbrev pub RefusedAs : ℕ → ℕ → ℕ → LimitFault → Type 0
RefusedAs batch cells calls BatchLimit = IsNoLimit batch
RefusedAs batch cells calls CellLimit = IsLimit batch × IsNoLimit cells
RefusedAs batch cells calls CallLimit = IsLimit batch × IsLimit cells × IsNoLimit calls

-- How a loader makes its batches. Without `tables` a batch may mix tables. With them each batch is of one table, and
-- they are those that have a limit of their own.
pub record Rules : Type 0 where
  pub limits : Limits
  pub tables : Option (List (List ℕ × ℕ))

-- batches may mix tables
abbrev pub mixed : Limits → Rules
mixed limits = record { limits = limits; tables = None }

-- each batch is of one table, and these tables have limits of their own
abbrev pub by_table : Limits → List (List ℕ × ℕ) → Rules
by_table limits tables = record { limits = limits; tables = Some tables }

-- batches may mix tables or, if you give tables with limits of their own, are each of one table
abbrev pub rules_by : Limits → Option (List (List ℕ × ℕ)) → Rules
rules_by limits tables = record { limits = limits; tables = tables }

abbrev pub limit_by : ℕ → Option (List (List ℕ × ℕ)) → List ℕ → ℕ
limit_by max_batch None table = max_batch
limit_by max_batch (Some ts) table = unwrap_or (lookup (bytes_eq table) ts) max_batch

-- the most keys of a batch, if they are of the table (DataLoader: maxBatchSize)
abbrev pub limit_of : Rules → List ℕ → ℕ
limit_of rules table = limit_by rules.limits.max_batch rules.tables table
