-- The names of a loader's set-once cells.
use Rattle.dl_cells.specs.Cells.{RowName, no_row}
use Rattle.dl_history.specs.declared.flags.Flags.{Flags}

-- the row of the events, the row of the cells' outcomes, and the flags that go up when the loader is stopped and when a
-- cell refuses its outcome
pub record CellNames : Type 0 where
  pub log : RowName
  pub outcomes : RowName
  pub flags : Flags

-- those of no loader, for a type that names none
abbrev pub no_cells : CellNames
no_cells = record { log = no_row; outcomes = no_row; flags = record { stop = 0; refusal = 0 } }
