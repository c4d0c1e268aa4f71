-- What contracts see of a loader's book, which lies behind its lock, and what the book keeps.
use Rattle.std.specs.Prelude.{List}
use Rattle.dl_desk.specs.BatchBook.{BatchBook}
use Rattle.dl_history.specs.Flags.{KnownFlags}
use Rattle.dl_desk.specs.Service.{Service}
use Rattle.dl_history.specs.Journal.{Cell}
use Rattle.dl_history.specs.LoaderState.{LoaderState, loader_state, IsLoaderState}
use Rattle.dl_desk.specs.declared.event.Event.{Event}

-- What contracts see of a book: the history, the desk with its memo and batches, the cells, and what it knows of the loader's flags.
pub record Book : Type 0 where
  pub history : List Event
  pub desk : BatchBook
  pub cells : List Cell
  pub flags : KnownFlags

abbrev pub book : List Event → BatchBook → List Cell → KnownFlags → Book
book history desk cells flags = record { history = history; desk = desk; cells = cells; flags = flags }

-- a book without its flags
abbrev pub state_of : Book → LoaderState
state_of b = loader_state b.history b.desk b.cells

-- What a book keeps: its history is legal, and its desk and its cells are those of the history.
abbrev pub Keeps : Service → Book → Type 0
Keeps service b = IsLoaderState service (state_of b)
