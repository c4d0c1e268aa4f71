-- How often a database is asked while plans are served.
use Rattle.std.specs.Prelude.{◌≡◌, ℕ, zero, suc, ◌++◌, ◌∷◌, [], List, Bool, not, codes, count_by, decimal, nat_lt, sum, sum_by, String}
use Rattle.std.specs.Prelude.{◌&&◌, Option, Some, None, if◌then◌else◌, is_some}
use Rattle.std.specs.HashSet.{HashSet, contains_text}
use Rattle.std.specs.declared.alloc.Global.{Global}
use Rattle.dl_values.specs.Key.{Key}
use Rattle.dl_desk.specs.Events.{atoms}
use Rattle.dl_desk.specs.History.{Atom, begun}
use Rattle.dl_desk.specs.Legal.{keys_of}
use Rattle.dl_desk.specs.declared.event.Call.{Call}
use Rattle.dl_desk.specs.declared.event.Call.TheVariants.{Load, LoadMany, Prime, Clear, ClearAll, Dispatch, Settle, Fail}
use Rattle.dl_desk.specs.declared.event.Event.{Event}
use Rattle.dl_history.specs.History.{past}
use Rattle.dl_plans.specs.declared.settings.Options.{Options}
use Rattle.dl_plans.specs.declared.statistics.AskedBatches.{AskedBatches}

-- whether the database is asked for a key: no table of the plan file, whose names these are, has the name of its table
module _ {S : Type 0} where
  abbrev pub is_asked : HashSet (String Global) S → Key → Bool
  is_asked names k = not (contains_text names k.table)

-- the keys that a call loads, in order
abbrev pub loaded_keys : Call → List Key
loaded_keys (Load k) = k ∷ []
loaded_keys (LoadMany ks) = ks
loaded_keys (Prime k o) = []
loaded_keys (Clear k) = []
loaded_keys ClearAll = []
loaded_keys Dispatch = []
loaded_keys (Settle b os) = []
loaded_keys (Fail b fault) = []

module _ (asked : Key → Bool) where
  -- how many loads of such keys the events make
  abbrev pub asked_loads : List Event → ℕ
  asked_loads events = sum_by (λ e. count_by asked (loaded_keys e.call)) events

  -- how many such keys each of the first batches has, for this many of them
  abbrev pub first_counts : List Atom → ℕ → List ℕ
  first_counts history zero = []
  first_counts history (suc n) = first_counts history n ++ count_by asked (keys_of history n) ∷ []

  -- how many such keys each batch has, in the order in which they began
  abbrev pub asked_counts : List Atom → List ℕ
  asked_counts history = first_counts history (begun history)

-- how many batches have such a key, and how many of them they have together
pub record AreAsked (counts : List ℕ) (n : AskedBatches) : Type 0 where
  pub batches : n.batches ≡ count_by (nat_lt 0) counts
  pub keys : n.keys ≡ sum counts

-- the line of these numbers
abbrev pub numbers_text : ℕ → ℕ → ℕ → List ℕ
numbers_text batches keys loads =
    codes "database: no statement, as it is read once; one for each batch would be "
    ++ (decimal batches ++ (codes ", for " ++ (decimal keys ++ (codes " keys, and one for each load " ++ decimal loads))))

-- the line of the statistics of a history with these events
abbrev pub database_text : (Key → Bool) → List Event → List ℕ
database_text asked events =
    let counts = asked_counts asked (atoms (past events)) in
    numbers_text (count_by (nat_lt 0) counts) (sum counts) (asked_loads asked events)

module _ {S : Type 0} where
  -- the line that the options ask for, by the names of the plan file's tables
  abbrev pub statistics_text : Options → HashSet (String Global) S → List Event → Option (List ℕ)
  statistics_text options names events =
      if is_some options.database && options.statistics then Some (database_text (is_asked names) events) else None
