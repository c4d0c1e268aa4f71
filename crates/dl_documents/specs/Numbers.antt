-- The numbers that a document gives for its limits.
use Rattle.std.specs.Prelude.{◌≡◌, ℕ, ℤ, pos, codes, Some, None}
use Rattle.serde_json.specs.Data.{Data}
use Rattle.dl_values.specs.Limits.{Limits, IsLimit, AreLimits}
use Rattle.dl_values.specs.declared.fault.LimitFault.{LimitFault}
use Rattle.dl_values.specs.declared.fault.LimitFault.TheVariants.{BatchLimit, CellLimit, CallLimit}
use Rattle.dl_documents.specs.Document.{number_at}
use Rattle.dl_documents.specs.Faults.{limit_name, IsOutside}
use Rattle.dl_documents.specs.declared.limits.Numbers.{Numbers}

-- the three members give these numbers
pub record AreGiven (d : Data) (n : Numbers) : Type 0 where
  pub batch : number_at (codes "maxBatchSize") d ≡ Some n.max_batch
  pub cells : number_at (codes "maxCells") d ≡ Some n.max_cells
  pub calls : number_at (codes "maxCalls") d ≡ Some n.max_calls

-- the member of a limit isn't a whole number
abbrev pub LacksNumber : Data → Type 0
LacksNumber d = (l : LimitFault) × (number_at (limit_name l) d ≡ None)

-- the numbers are the limits
pub record AreLimitsOf (n : Numbers) (l : Limits) : Type 0 where
  pub batch : n.max_batch ≡ pos l.max_batch
  pub cells : n.max_cells ≡ pos l.max_cells
  pub calls : n.max_calls ≡ pos l.max_calls
  pub limits : AreLimits l

-- a number that a limit may be
abbrev pub IsInside : ℤ → Type 0
IsInside z = (m : ℕ) × (z ≡ pos m) × IsLimit m

-- the first of the three numbers that isn't a limit
abbrev pub IsFirstOutside : Numbers → LimitFault → Type 0
IsFirstOutside n BatchLimit = IsOutside n.max_batch
IsFirstOutside n CellLimit = IsInside n.max_batch × IsOutside n.max_cells
IsFirstOutside n CallLimit = IsInside n.max_batch × IsInside n.max_cells × IsOutside n.max_calls
