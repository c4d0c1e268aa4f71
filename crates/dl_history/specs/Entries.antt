-- What the entries of a pass say.
use Rattle.std.specs.Prelude.{◌≡◌, ℕ, ◌+◌, ◌≤◌, List, [], ◌∷◌, ◌++◌, map, max, Option, Some, None}
use Rattle.dl_values.specs.declared.outcome.Outcome.TheVariants.{BatchFailed}
use Rattle.dl_values.specs.declared.outcome.BatchFault.TheVariants.{Unsent}
use Rattle.dl_desk.specs.declared.reply.LoadReply.{LoadReply}
use Rattle.dl_desk.specs.declared.reply.LoadReply.TheVariants.{Hit, Fresh}
use Rattle.dl_desk.specs.declared.event.Event.{Event}
use Rattle.dl_desk.specs.declared.event.Call.TheVariants.{ClearAll}
use Rattle.dl_desk.specs.declared.event.Ending.{Ending}
use Rattle.dl_desk.specs.declared.event.Reply.{Reply}
use Rattle.dl_desk.specs.declared.event.Reply.TheVariants.{Loaded, Many, Primed, Kept, Done, Sent}
use Rattle.dl_history.specs.declared.entry.EntryKind.{EntryKind}
use Rattle.dl_history.specs.declared.entry.EntryKind.TheVariants as kind
use Rattle.dl_history.specs.Lists.{Among}

-- ---- entries

-- an event, and its place in the history
pub record PlacedEvent : Type 0 where
  pub at : ℕ
  pub event : Event

abbrev pub event_at : ℕ → Event → PlacedEvent
event_at at event = record { at = at; event = event }

-- what was read of a cell: its outcome, and the place of the event that gave it
pub record Read : Type 0 where
  pub cell : ℕ
  pub ending : Ending

abbrev pub read : ℕ → Ending → Read
read cell ending = record { cell = cell; ending = ending }

-- an entry: a call that was made, or an outcome that was read
pub data Entry : Type 0 where
  Called : PlacedEvent → Entry
  Saw : Read → Entry

-- an entry without its event or its outcome
abbrev pub kind_of : Entry → EntryKind
kind_of (Called t) = kind.Call t.at
kind_of (Saw r) = kind.Saw r.cell r.ending.at

-- what is known of a log's cell, else an event of nobody
abbrev pub event_known : Option Event → Event
event_known None = record { caller = 0; call = ClearAll; reply = Done }
event_known (Some e) = e

-- what is known of an outcome's cell, else an end of no batch
abbrev pub ending_known : Option Ending → Ending
ending_known None = record { at = 0; outcome = BatchFailed Unsent }
ending_known (Some e) = e

-- ---- the calls among the entries

abbrev pub calls_in : Entry → List PlacedEvent
calls_in (Called t) = t ∷ []
calls_in (Saw r) = []

-- the calls, in order
abbrev pub calls_of : List Entry → List PlacedEvent
calls_of [] = []
calls_of (entry ∷ entries) = calls_in entry ++ calls_of entries

-- the event is one of the caller's
abbrev pub IsOwn : ℕ → PlacedEvent → Type 0
IsOwn caller t = t.event.caller ≡ caller

-- ---- places

abbrev pub entry_front : Entry → ℕ
entry_front (Called t) = t.at + 1
entry_front (Saw r) = r.ending.at + 1

-- one more than the greatest place among the entries, and 0 without any
abbrev pub front_of : List Entry → ℕ
front_of [] = 0
front_of (entry ∷ entries) = max (entry_front entry) (front_of entries)

abbrev pub Begins : ℕ → Entry → Type 0
Begins k (Called t) = k ≤ t.at
Begins k (Saw r) = Unit {0}

-- each call has a place that is at least k, and above those of all calls and reads before it
abbrev pub Ordered : ℕ → List Entry → Type 0
Ordered k [] = Unit {0}
Ordered k (entry ∷ entries) = Begins k entry × Ordered (max k (entry_front entry)) entries

-- ---- cells

abbrev pub cell_of_load : LoadReply → ℕ
cell_of_load (Hit c) = c
cell_of_load (Fresh c b) = c

-- the cells that a call gets in reply
abbrev pub answered : Reply → List ℕ
answered (Loaded r) = cell_of_load r ∷ []
answered (Many rs) = map cell_of_load rs
answered (Primed c) = c ∷ []
answered Kept = []
answered Done = []
answered (Sent js) = []

abbrev pub cells_in : Entry → List ℕ
cells_in (Called t) = answered t.event.reply
cells_in (Saw r) = []

-- the cells that the calls among the entries got in reply
abbrev pub cells_of : List Entry → List ℕ
cells_of [] = []
cells_of (entry ∷ entries) = cells_in entry ++ cells_of entries

abbrev pub IsOf : List ℕ → Entry → Type 0
IsOf cs (Called t) = Unit {0}
IsOf cs (Saw r) = Among r.cell cs

-- each outcome that was read is of one of these cells, or of one that a call before it got in reply
abbrev pub Answered : List ℕ → List Entry → Type 0
Answered cs [] = Unit {0}
Answered cs (entry ∷ entries) = IsOf cs entry × Answered (cs ++ cells_in entry) entries
