-- What contracts see of the events and the cells of a loader, and what holds of the fields behind them.
use Rattle.std.specs.Prelude.{◌≡◌, ℕ, Bool, true, false, count_by, ◌<◌, List, length, map, set, Option, Some, None, slice_get}
use Rattle.dl_cells.specs.Cells.{RowName, cell_of, row_len, Reader}
use Rattle.dl_history.specs.Entries.{event_known}
use Rattle.dl_desk.specs.declared.event.Event.{Event}
use Rattle.dl_desk.specs.declared.event.Ending.{Ending}
use Rattle.dl_history.specs.declared.cell_state.Mark.{Mark}
use Rattle.dl_history.specs.declared.cell_state.Mark.TheVariants.{Waiting, Ended, Refused}
use Rattle.dl_history.specs.declared.cell_state.CellState.{CellState}

-- the state of a cell: whether it took the end that it got, or else which one it refused, and what it is known to show
pub record Cell : Type 0 where
  pub mark : Mark
  pub shows : Option Ending

-- a cell that has no end
abbrev pub waiting : Cell
waiting = record { mark = Waiting; shows = None }

-- a cell that took its outcome
abbrev pub showing : Ending → Cell
showing e = record { mark = Ended; shows = Some e }

-- a cell that had something else, with the end that it refused
abbrev pub refused : Ending → Option Ending → Cell
refused kept other = record { mark = Refused kept; shows = other }

abbrev pub is_refused : Mark → Bool
is_refused Waiting = false
is_refused Ended = false
is_refused (Refused kept) = true

abbrev pub cell_refused : Option Cell → Bool
cell_refused None = false
cell_refused (Some x) = is_refused x.mark

-- how many cells refused their outcome
abbrev pub refusals : List Cell → ℕ
refusals cells = count_by (λ x. is_refused x.mark) cells

-- the cells once one of them refused this end
abbrev pub Refuses : List Cell → List Cell → ℕ → Ending → Type 0
Refuses before now c end = (other : Option Ending) × (now ≡ set before c (refused end other))

-- the events in order, the cells, and how many more of each there is room for
pub record Journal : Type 0 where
  pub history : List Event
  pub cells : List Cell
  pub spare : ℕ
  pub cells_spare : ℕ

-- the events that readers of a log know, in order
abbrev pub events_known : List (Reader Event) → List Event
events_known readers = map (λ r. event_known r.known) readers

-- a reader of the cell at a place of a log, which knows its event; a place has sixteen bits
pub record IsKnown (log : RowName) (k : ℕ) (r : Reader Event) : Type 0 where
  pub few : k < 65536
  pub in_log : k < row_len log
  pub cell_is : r.cell ≡ cell_of log k
  pub knows : r.known ≡ Some (event_known r.known)

-- readers, in order, of the first cells of a log, each of which knows its event
pub record AreKnown (log : RowName) (readers : List (Reader Event)) : Type 0 where
  pub at : (k : ℕ) (r : Reader Event) → slice_get readers k ≡ Some r → IsKnown log k r

abbrev pub cell_by : CellState → Cell
cell_by s = record { mark = s.mark; shows = s.reader.known }

-- the cells as the states have them
abbrev pub cells_by : List CellState → List Cell
cells_by states = map cell_by states

-- each state is of its own cell
pub record AreOwn (outcomes : RowName) (states : List CellState) : Type 0 where
  pub at : (c : ℕ) (s : CellState) → slice_get states c ≡ Some s → s.reader.cell ≡ cell_of outcomes c

-- the fields of a journal: how many events it has counted, the readers that know them, in order, and the state of each cell
pub record JournalFields : Type 0 where
  pub counted : ℕ
  pub readers : List (Reader Event)
  pub states : List CellState

-- each event is counted and lies at its place of the log, and each state is of its own cell
pub record IsJournal (log outcomes : RowName) (fields : JournalFields) : Type 0 where
  pub counted_is : fields.counted ≡ length fields.readers
  pub known : AreKnown log fields.readers
  pub own : AreOwn outcomes fields.states
