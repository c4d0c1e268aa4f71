-- What holds of the history of every closed loader, whatever its callers do. dl_desk has the laws of every legal past.
use Rattle.std.specs.Prelude.{◌≡◌, ℕ, [], Some, slice_get}
use Rattle.dl_desk.specs.Service.{Service}
use Rattle.dl_desk.specs.declared.event.Event.{Event}
use Rattle.dl_history.specs.Agreement.{entries_of}
use Rattle.dl_history.specs.ClosedHistory.{History, IsHistory}
use Rattle.dl_history.specs.Entries.{calls_of, event_at}
use Rattle.dl_history.specs.Lists.{Among, Every}

-- each event of a closed history is a call among its caller's entries
abbrev pub EventsAreCalls : Type 0
EventsAreCalls = (service : Service) (h : History) → IsHistory service h → (k : ℕ) (e : Event) → slice_get h.events k ≡ Some e
    → Among (event_at k e) (calls_of (entries_of e.caller h.accounts))

-- so a loader begins with an empty history: if its callers made no call, there is no event
abbrev pub HistoriesBeginEmpty : Type 0
HistoriesBeginEmpty = (service : Service) (h : History) → IsHistory service h → Every (λ a. calls_of a.entries ≡ []) h.accounts → h.events ≡ []
