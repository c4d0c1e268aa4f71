-- The history of a shared loader: its events in order, when it is legal, and how its cells and its batches end.
use Rattle.std.specs.Prelude.{ℕ, ◌<◌, List, reverse, Option, Some, None, IsSome}
use Rattle.dl_desk.specs.History.{begun, end_of}
use Rattle.dl_desk.specs.Events.{atoms, ended, outcome}
use Rattle.dl_desk.specs.Legal as desk
use Rattle.dl_desk.specs.Service.{Service}
use Rattle.dl_values.specs.declared.outcome.Outcome.{Outcome}
use Rattle.dl_desk.specs.declared.event.Event.{Event}
use Rattle.dl_desk.specs.declared.event.Ending.{Ending}

-- A history is the list of its events in order. This is its past, the newest first.
abbrev pub past : List Event → List Event
past events = reverse events

-- each event of the history may come after those before it
abbrev pub IsLegal : Service → List Event → Type 0
IsLegal service events = desk.IsLegal service (past events)

-- ---- the ends of cells

abbrev pub end_with : Option ℕ → Option Outcome → Option Ending
end_with None o = None
end_with (Some at) None = None
end_with (Some at) (Some o) = Some (record { at = at; outcome = o })

-- what a cell shows once it has ended: the place of the event that ended it, and the outcome that it got
abbrev pub ending_of : List Event → ℕ → Option Ending
ending_of events c = end_with (ended (past events) c) (outcome (past events) c)

-- ---- the ends of batches

-- the batch has ended
abbrev pub HasEnd : List Event → ℕ → Type 0
HasEnd history b = IsSome (end_of (atoms (past history)) b)

-- each batch has ended
abbrev pub AllEnded : List Event → Type 0
AllEnded history = (b : ℕ) → b < begun (atoms (past history)) → HasEnd history b
