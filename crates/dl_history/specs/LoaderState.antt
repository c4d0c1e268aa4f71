-- What a loader keeps with the events of its history: the desk that they leave, and the cells.
use Rattle.std.specs.Prelude.{◌≡◌, ℕ, ◌≤◌, List, length, Option, None, Some, IsSome, slice_get}
use Rattle.dl_desk.specs.Events.{atoms}
use Rattle.dl_desk.specs.BatchBook.{BatchBook, StandsFor}
use Rattle.dl_desk.specs.Service.{Service}
use Rattle.dl_history.specs.History.{past, IsLegal, ending_of}
use Rattle.dl_history.specs.Journal.{Cell}
use Rattle.dl_desk.specs.declared.event.Event.{Event}
use Rattle.dl_desk.specs.declared.event.Ending.{Ending}
use Rattle.dl_history.specs.declared.cell_state.Mark.{Mark}
use Rattle.dl_history.specs.declared.cell_state.Mark.TheVariants.{Waiting, Ended, Refused}

-- the events in order, the desk with its memo and batches, and the cells
pub record LoaderState : Type 0 where
  pub history : List Event
  pub desk : BatchBook
  pub cells : List Cell

abbrev pub loader_state : List Event → BatchBook → List Cell → LoaderState
loader_state history desk cells = record { history = history; desk = desk; cells = cells }

-- A cell that has no end shows nothing. One that has an end shows its outcome with the place of its end, or refused it,
-- and then its mark keeps it.
abbrev pub ShowsEnd : Option Ending → Mark → Option Ending → Type 0
ShowsEnd end Waiting shows = (end ≡ None) × (shows ≡ None)
ShowsEnd end Ended shows = IsSome end × (shows ≡ end)
ShowsEnd end (Refused kept) shows = end ≡ Some kept

-- the same of a cell that is there; if there is none, there is no end
abbrev pub ShownAs : Option Cell → Option Ending → Type 0
ShownAs None end = end ≡ None
ShownAs (Some x) end = ShowsEnd end x.mark x.shows

-- The history is legal and no longer than it may be, the memo and batches of the desk are those of the history, each of
-- its cells is there, and each of them shows its end or keeps it.
pub record IsLoaderState (service : Service) (b : LoaderState) : Type 0 where
  pub legal : IsLegal service b.history
  pub calls_fit : length b.history ≤ service.rules.limits.max_calls
  pub rules : b.desk.rules ≡ service.rules
  pub desk : StandsFor b.desk (atoms (past b.history))
  pub all_cells : length b.cells ≡ b.desk.cells
  pub cells_fit : b.desk.cells ≤ service.rules.limits.max_cells
  pub ends : (c : ℕ) (x : Cell) → slice_get b.cells c ≡ Some x → ShowsEnd (ending_of b.history c) x.mark x.shows
