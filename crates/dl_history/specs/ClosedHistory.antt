-- What contracts see of a history that a closed loader leaves.
use Rattle.std.specs.Prelude.{◌≡◌, ℕ, ◌<◌, List, [], ◌∷◌, length, map, nat_eq, slice_get, if◌then◌else◌}
use Rattle.dl_values.specs.Key.{Key}
use Rattle.dl_values.specs.Limits.{AreLimits}
use Rattle.dl_desk.specs.declared.reply.End.{End}
use Rattle.dl_history.specs.Agreement.{Account, account, HasEach, Agrees}
use Rattle.dl_history.specs.Entries.{Entry, Called, Saw, event_at, read, kind_of, event_known, ending_known}
use Rattle.dl_history.specs.History.{AllEnded, IsLegal, ending_of}
use Rattle.dl_history.specs.LoaderState.{LoaderState, IsLoaderState}
use Rattle.dl_history.specs.Lists.{Every}
use Rattle.dl_desk.specs.Service.{Service, AnswersEach}
use Rattle.dl_history.specs.declared.entry.EntryKind.{EntryKind}
use Rattle.dl_history.specs.declared.entry.EntryKind.TheVariants as kind
use Rattle.dl_desk.specs.declared.event.Event.{Event}

-- the events in order, and an account for each caller
pub record History : Type 0 where
  pub events : List Event
  pub accounts : List Account

abbrev pub history_of : List Event → List Account → History
history_of events accounts = record { events = events; accounts = accounts }

-- What holds of every history, for the service of its loader: it is legal, its callers and nobody else have an account
-- each, which agrees with the events, and each batch has ended.
pub record IsHistory (service : Service) (h : History) : Type 0 where
  pub limits : AreLimits service.rules.limits
  pub legal : IsLegal service h.events
  pub count : length h.accounts ≡ service.callers
  pub callers : Every (λ a. a.caller < service.callers) h.accounts
  pub each : HasEach service.callers h.accounts
  pub agree : Every (Agrees h.events) h.accounts
  pub ended : AllEnded h.events

-- a batch that has ended: the keys of its members in order, and how it ended
pub record EndedBatch : Type 0 where
  pub keys : List Key
  pub end : End

-- ---- accounts without what their entries say

-- a caller, and what each of its entries is
pub record Outline : Type 0 where
  pub caller : ℕ
  pub kinds : List EntryKind

abbrev pub outline : ℕ → List EntryKind → Outline
outline caller kinds = record { caller = caller; kinds = kinds }

abbrev pub outline_of : Account → Outline
outline_of a = outline a.caller (map kind_of a.entries)

-- An entry as a history has it: a call with the event at its place, an outcome that was read with the one that the history gives the cell.
abbrev pub entry_at : List Event → EntryKind → Entry
entry_at events (kind.Call at) = Called (event_at at (event_known (slice_get events at)))
entry_at events (kind.Saw cell at) = Saw (read cell (record { at = at; outcome = (ending_known (ending_of events cell)).outcome }))

abbrev pub account_at : List Event → Outline → Account
account_at events o = account o.caller (map (entry_at events) o.kinds)

abbrev pub accounts_at : List Event → List Outline → List Account
accounts_at events outlines = map (account_at events) outlines

-- what the entries of a caller's account are, and none if it has no account
abbrev pub kinds_of : ℕ → List Outline → List EntryKind
kinds_of n [] = []
kinds_of n (o ∷ outlines) = if nat_eq n o.caller then o.kinds else kinds_of n outlines

-- the place of a call
abbrev pub place_of : EntryKind → List ℕ
place_of (kind.Call at) = at ∷ []
place_of (kind.Saw cell at) = []

-- ---- the fields of a history

-- the desk and the cells are those of the events, and an answer of the source has an outcome for each key, unless it breaks
pub record AreHistoryFields (service : Service) (b : LoaderState) (h : History) : Type 0 where
  pub kept : IsLoaderState service b
  pub answers : AnswersEach service.answer
  pub history_is : IsHistory service h
