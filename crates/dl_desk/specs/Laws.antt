-- What holds of every history that is answered as a data loader of one thread answers, whatever its calls.
use Rattle.std.specs.Prelude.{◌≡◌, ◌≢◌, ℕ, ◌≤◌, true, List, ◌∷◌, ◌++◌, length, Option, Some, None, All, AllPairs}
use Rattle.std.specs.List.{list_any}
use Rattle.dl_values.specs.Key.{Key}
use Rattle.dl_values.specs.Limits.{Limits, Rules, by_table, limit_of}
use Rattle.dl_desk.specs.History.{Atom, Load, AllAnswered, members, forgets}
use Rattle.dl_desk.specs.Events.{atoms, ended, outcome}
use Rattle.dl_desk.specs.Legal.{IsLegal}
use Rattle.dl_desk.specs.Service.{Service}
use Rattle.dl_desk.specs.declared.event.Event.{Event}
use Rattle.dl_desk.specs.declared.reply.LoadReply.TheVariants.{Fresh}
use Rattle.dl_values.specs.declared.outcome.Outcome.{Outcome}

-- ---- histories

-- Between two fresh loads of one key something forgets the key: a clear of it, a clear of all, or the failure of the
-- first one's batch. So between clears a key is put into one batch, unless that batch failed (DataLoader: the memo).
abbrev pub FreshLoadsAreApart : Type 0
FreshLoadsAreApart = (rules : Rules) (key : Key) (cell batch later_cell later_batch : ℕ) (later between before : List Atom)
    → AllAnswered rules (later ++ Load key (Fresh later_cell later_batch) ∷ (between ++ Load key (Fresh cell batch) ∷ before))
    → list_any (forgets key (Some batch)) between ≡ true

-- each batch may have a member
pub record HaveLimits (rules : Rules) : Type 0 where
  pub least : (table : List ℕ) → 1 ≤ limit_of rules table

-- if tables have limits of their own, the members are of one table
abbrev pub AreOfOneTable : Option (List (List ℕ × ℕ)) → List (Key × ℕ) → Type 0
AreOfOneTable None ms = Unit {0}
AreOfOneTable (Some tables) ms = AllPairs (λ m n. m.0.table ≡ n.0.table) ms

-- the members of a batch as the rules allow them (DataLoader: maxBatchSize)
pub record IsBatch (rules : Rules) (ms : List (Key × ℕ)) : Type 0 where
  pub distinct : AllPairs (λ m n. m.0 ≢ n.0) ms
  pub within : All (λ m. length ms ≤ limit_of rules m.0.table) ms
  pub tables : AreOfOneTable rules.tables ms

-- a batch has distinct keys, no more than its limit, and of one table if tables have limits
abbrev pub BatchesAreWithinLimits : Type 0
BatchesAreWithinLimits = (rules : Rules) → HaveLimits rules → (history : List Atom) → AllAnswered rules history → (batch : ℕ)
    → IsBatch rules (members history batch)

-- if each batch is of one table, a batch has distinct keys, all of one table, and no more than the limit of that table
abbrev pub BatchesByTableAreWithinLimits : Limits → List (List ℕ × ℕ) → Type 0
BatchesByTableAreWithinLimits limits tables = (history : List Atom) → AllAnswered (by_table limits tables) history → (batch : ℕ)
    → IsBatch (by_table limits tables) (members history batch)

-- ---- pasts

-- Each atom of a legal past is answered, so the laws above hold of it too.
abbrev pub LegalPastsAreAnswered : Type 0
LegalPastsAreAnswered = (service : Service) (past : List Event) → IsLegal service past → AllAnswered service.rules (atoms past)

-- a cell that has ended keeps the place of its end in every longer past
abbrev pub EndsStay : Type 0
EndsStay = (service : Service) (later before : List Event) (cell place : ℕ) → IsLegal service (later ++ before) → ended before cell ≡ Some place
    → ended (later ++ before) cell ≡ Some place

-- and it keeps the outcome that it got
abbrev pub OutcomesStay : Type 0
OutcomesStay = (service : Service) (later before : List Event) (cell : ℕ) (given : Outcome) → IsLegal service (later ++ before)
    → outcome before cell ≡ Some given → outcome (later ++ before) cell ≡ Some given
