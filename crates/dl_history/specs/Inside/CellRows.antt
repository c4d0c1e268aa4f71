-- What holds of the rows of a loader.
use Rattle.std.specs.Prelude.{◌≡◌}
use Rattle.dl_cells.specs.Cells.{row_len}
use Rattle.dl_values.specs.Limits.{Limits}
use Rattle.dl_history.specs.CellNames.{CellNames}

-- the limits of a loader, and its set-once cells
pub record RowFields : Type 0 where
  pub limits : Limits
  pub cells : CellNames

-- they are the loader's own, with room for all calls and cells that its limits let it have
pub record AreCellRows (own fields : RowFields) : Type 0 where
  pub limits_are : fields.limits ≡ own.limits
  pub log_is : fields.cells.log ≡ own.cells.log
  pub outcomes_are : fields.cells.outcomes ≡ own.cells.outcomes
  pub flags_are : fields.cells.flags ≡ own.cells.flags
  pub calls_fit : row_len own.cells.log ≡ fields.limits.max_calls
  pub cells_fit : row_len own.cells.outcomes ≡ fields.limits.max_cells
