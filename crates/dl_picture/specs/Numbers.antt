-- The numbers of a history: its loads and hits, its rounds, and its batches.
use Rattle.std.specs.Prelude.{◌≡◌, ℕ, zero, suc, ◌&&◌, Bool, true, false, List, [], ◌∷◌, ◌++◌, length, max, sum, Option, Some, None, filter, flat_map}
use Rattle.std.specs.Prelude.{count_by, nat_eq}
use Rattle.dl_desk.specs.Events.{atoms}
use Rattle.dl_desk.specs.History.{Atom, begun}
use Rattle.dl_desk.specs.declared.reply.LoadReply.{LoadReply}
use Rattle.dl_desk.specs.declared.reply.LoadReply.TheVariants.{Hit, Fresh}
use Rattle.dl_desk.specs.Legal.{keys_of}
use Rattle.dl_history.specs.History.{past}
use Rattle.dl_desk.specs.declared.event.Call.{Call}
use Rattle.dl_desk.specs.declared.event.Call.TheVariants.{Load, LoadMany, Prime, Clear, ClearAll, Dispatch, Settle, Fail}
use Rattle.dl_desk.specs.declared.event.Event.{Event}
use Rattle.dl_desk.specs.declared.event.Reply.{Reply}
use Rattle.dl_desk.specs.declared.event.Reply.TheVariants.{Loaded, Many, Primed, Kept, Done, Sent}
use Rattle.dl_picture.specs.declared.loads.LoadNumbers.{LoadNumbers}
use Rattle.dl_picture.specs.declared.batches.BatchNumbers.{BatchNumbers}
use Rattle.dl_picture.specs.declared.numbers.HistoryNumbers.{HistoryNumbers}
use Rattle.dl_picture.specs.declared.numbers.PlanNumbers.{PlanNumbers}

-- ---- loads

-- whether the event is the caller's, or no caller is named
abbrev pub is_by : Option ℕ → Event → Bool
is_by None e = true
is_by (Some n) e = nat_eq n e.caller

-- the events of a caller, or all if no caller is named
abbrev pub events_by : Option ℕ → List Event → List Event
events_by caller events = filter (is_by caller) events

-- the replies to a call's loads: one for a load, and one for each key of a loadMany
abbrev pub replies_in : Reply → List LoadReply
replies_in (Loaded r) = r ∷ []
replies_in (Many rs) = rs
replies_in (Primed c) = []
replies_in Kept = []
replies_in Done = []
replies_in (Sent js) = []

-- the replies to the loads of events, in their order
abbrev pub load_replies : List Event → List LoadReply
load_replies events = flat_map (λ e. replies_in e.reply) events

abbrev pub is_hit : LoadReply → Bool
is_hit (Hit c) = true
is_hit (Fresh c b) = false

-- how many loads have these replies, and how many of them are hits
pub record AreLoadNumbers (replies : List LoadReply) (n : LoadNumbers) : Type 0 where
  pub loads : n.loads ≡ length replies
  pub hits : n.hits ≡ count_by is_hit replies

-- ---- rounds

-- whether the call begins a round: a round loads by one loadMany
abbrev pub is_round : Call → Bool
is_round (LoadMany ks) = true
is_round (Load k) = false
is_round (Prime k o) = false
is_round (Clear k) = false
is_round ClearAll = false
is_round Dispatch = false
is_round (Settle b os) = false
is_round (Fail b fault) = false

-- the events by which a caller began its rounds
abbrev pub round_events : ℕ → List Event → List Event
round_events caller events = filter (λ e. nat_eq caller e.caller && is_round e.call) events

-- ---- batches

-- how many keys each of the first batches has, for this many of them
abbrev pub sizes_of : List Atom → ℕ → List ℕ
sizes_of history zero = []
sizes_of history (suc n) = sizes_of history n ++ length (keys_of history n) ∷ []

-- how many keys each batch has, in the order in which they began
abbrev pub batch_sizes : List Atom → List ℕ
batch_sizes history = sizes_of history (begun history)

-- the greatest of the numbers, and 0 of none
abbrev pub greatest : List ℕ → ℕ
greatest [] = 0
greatest (n ∷ ns) = max n (greatest ns)

-- how many batches have these sizes, how many keys they have together, and how many keys the largest has
pub record AreSizes (sizes : List ℕ) (n : BatchNumbers) : Type 0 where
  pub batches : n.batches ≡ length sizes
  pub keys : n.keys ≡ sum sizes
  pub largest : n.largest ≡ greatest sizes

-- the numbers of a history's batches
pub record AreBatchNumbers (history : List Atom) (n : BatchNumbers) : Type 0 where
  pub batches : n.batches ≡ begun history
  pub sizes : AreSizes (batch_sizes history) n

-- ---- histories

-- the numbers of a history: of all its loads and of its batches
pub record AreHistoryNumbers (events : List Event) (n : HistoryNumbers) : Type 0 where
  pub loads : AreLoadNumbers (load_replies events) n.loads
  pub batches : AreBatchNumbers (atoms (past events)) n.batches

-- the numbers of a plan in the history of those that were served: its rounds and its loads
pub record ArePlanNumbers (events : List Event) (plan : ℕ) (n : PlanNumbers) : Type 0 where
  pub rounds : n.rounds ≡ length (round_events plan events)
  pub loads : AreLoadNumbers (load_replies (events_by (Some plan) events)) n.loads
