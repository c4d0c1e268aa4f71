-- Which loader a handle has: what its type stands for, as plain data.
use Rattle.std.specs.Prelude.{◌≡◌, ℕ, List, Option, None}
use mathlib.Core.Path.{refl}
use Rattle.std.specs.Coded.{Coded, code_by, coded×, coded_ℕ, coded_list, coded_option}
use Rattle.dl_cells.specs.Cells.{RowName}
use Rattle.dl_values.specs.Limits.{Limits, Rules}
use Rattle.dl_desk.specs.Service.{Service, service}
use Rattle.dl_history.specs.CellNames.{CellNames, no_cells}
use Rattle.dl_history.specs.declared.name.LoaderName as name
use Rattle.std.specs.declared.sync.ledger.Ledger as ledger
use Rattle.dl_loader.specs.HostSource.{by_marks}

pub record Named : Type 0 where
  pub cells : CellNames
  pub rules : Rules
  pub callers : ℕ
  pub ledger : ℕ

abbrev pub no_loader : Named
no_loader = record {
  cells = no_cells;
  rules = record { limits = record { max_batch = 0; max_cells = 0; max_calls = 0 }; tables = None };
  callers = 0;
  ledger = 0;
}

abbrev Row : Type 0
Row = List ℕ × ℕ

abbrev Cells : Type 0
Cells = Row × (Row × (ℕ × ℕ))

abbrev Three : Type 0
Three = ℕ × (ℕ × ℕ)

abbrev Tables : Type 0
Tables = Option (List (List ℕ × ℕ))

abbrev Flat : Type 0
Flat = Cells × (Three × (Tables × (ℕ × ℕ)))

abbrev flat_row : RowName → Row
flat_row r = (r.segments, r.cells)

abbrev flat_cells : CellNames → Cells
flat_cells c = (flat_row c.log, (flat_row c.outcomes, (c.flags.stop, c.flags.refusal)))

abbrev flat : Named → Flat
flat n = (
  flat_cells n.cells,
  ((n.rules.limits.max_batch, (n.rules.limits.max_cells, n.rules.limits.max_calls)), (n.rules.tables, (n.callers, n.ledger))),
)

abbrev row : Row → RowName
row r = record { segments = r.0; cells = r.1 }

abbrev cells : Cells → CellNames
cells c = record { log = row c.0; outcomes = row c.1.0; flags = record { stop = c.1.1.0; refusal = c.1.1.1 } }

abbrev limits : Three → Limits
limits t = record { max_batch = t.0; max_cells = t.1.0; max_calls = t.1.1 }

abbrev named : Flat → Named
named f = record {
  cells = cells f.0;
  rules = record { limits = limits f.1.0; tables = f.1.1.0 };
  callers = f.1.1.1.0;
  ledger = f.1.1.1.1;
}

abbrev row_code : Coded Row
row_code = coded× (coded_list coded_ℕ) coded_ℕ

abbrev cells_code : Coded Cells
cells_code = coded× row_code (coded× row_code (coded× coded_ℕ coded_ℕ))

abbrev three_code : Coded Three
three_code = coded× coded_ℕ (coded× coded_ℕ coded_ℕ)

abbrev tables_code : Coded Tables
tables_code = coded_option (coded_list (coded× (coded_list coded_ℕ) coded_ℕ))

abbrev pub named_code : Coded Named
named_code = code_by Flat (coded× cells_code (coded× three_code (coded× tables_code (coded× coded_ℕ coded_ℕ)))) flat named (λ _. refl)

-- what the loader serves by: its host answers by marks
abbrev pub service_by : Named → Service
service_by n = service n.rules n.callers by_marks

-- the members of a type that stands for the loader
abbrev pub name_ghosts : (D : Type 0) → Named → name.Ghosts D
name_ghosts D n = record { cells = n.cells; service = service_by n }

abbrev pub ledger_ghosts : (D : Type 0) → Named → ledger.Ghosts D
ledger_ghosts D n = record { name = n.ledger; parts = n.callers }

-- the loader that a type with these members stands for
abbrev pub named_by : CellNames → Service → ℕ → Named
named_by cells own ledger = record { cells = cells; rules = own.rules; callers = own.callers; ledger = ledger }

-- its host answers by marks, and each caller has a part of its ledger
pub record IsHosted (own : Service) (parts : ℕ) : Type 0 where
  pub answers : own.answer ≡ by_marks
  pub parts_are : parts ≡ own.callers
