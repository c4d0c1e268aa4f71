-- When a loader may close, and why it may not.
use Rattle.std.specs.Prelude.{◌≡◌, ℕ, zero, suc, ◌+◌, ◌<◌, ◌≤◌, List, [], length, Option, None, Some, nat_eq}
use Rattle.dl_desk.specs.Events.{atoms}
use Rattle.dl_desk.specs.History.{begun, end_of}
use Rattle.dl_history.specs.Agreement.{Account, account, accounts_by, HasCalls, HasEach, NoneBehind, unshown}
use Rattle.dl_loader.specs.Book.{Book, Keeps}
use Rattle.dl_desk.specs.Service.{Service}
use Rattle.dl_history.specs.Entries.{Entry, front_of}
use Rattle.dl_history.specs.History.{past, HasEnd}
use Rattle.dl_history.specs.Lists.{Every, Among, one_if}
use Rattle.dl_history.specs.declared.fault.CloseFault.{CloseFault}
use Rattle.dl_history.specs.declared.fault.CloseFault.TheVariants.{PassesMissing, Behind, Unshown, Unsettled, OutOfMemory}
use Rattle.dl_desk.specs.declared.event.Event.{Event}
use Rattle.dl_loader.specs.declared.loader.close.PassFront.{PassFront}

-- ---- passes

-- how many of the first callers have exactly one of the accounts
abbrev pub present : ℕ → List Account → ℕ
present zero accounts = 0
present (suc n) accounts = present n accounts + one_if (nat_eq (accounts_by n accounts) 1)

-- Of the accounts that have seen more events than there are, this is the one of the least caller, with this front.
pub record IsBehind (len : ℕ) (accounts : List Account) (first : PassFront) : Type 0 where
  pub entries : List Entry
  pub among : Among (account first.caller entries) accounts
  pub front_is : first.front ≡ front_of entries
  pub beyond : len < first.front
  pub least : (a : Account) → Among a accounts → len < front_of a.entries → first.caller ≤ a.caller

-- ---- cells that refused their outcome

-- the least of the numbers, if there are any
abbrev pub IsLeastOf : Option ℕ → List ℕ → Type 0
IsLeastOf None ns = ns ≡ []
IsLeastOf (Some n) ns = Among n ns × Every (λ m. n ≤ m) ns

-- ---- batches that have no end

-- the batch is the first one that has no end
pub record IsFirstOpen (history : List Event) (b : ℕ) : Type 0 where
  pub is_begun : b < begun (atoms (past history))
  pub no_end : end_of (atoms (past history)) b ≡ None
  pub first : (n : ℕ) → n < b → HasEnd history n

-- ---- refusals

-- The accounts fix the whole history: each caller has one, none has seen more than there is, and each has its caller's
-- calls. So no other legal history would do (one_history in dl_history/proofs/OneHistory.antt).
pub record TellWhole (callers : ℕ) (history : List Event) (accounts : List Account) : Type 0 where
  pub each : HasEach callers accounts
  pub seen : NoneBehind (length history) accounts
  pub calls : Every (HasCalls history) accounts

-- the fault of a refused close: the first cause that applies, unless memory ran out
abbrev pub RefusesClose : ℕ → Book → List Account → CloseFault → Type 0
RefusesClose callers b accounts (PassesMissing want got) = (want ≡ callers) × (got ≡ present callers accounts) × (got < want)
RefusesClose callers b accounts (Behind front len) =
    HasEach callers accounts × (len ≡ length b.history) × (caller : ℕ) × IsBehind len accounts (record { caller = caller; front = front })
RefusesClose callers b accounts (Unshown cell) = TellWhole callers b.history accounts × IsLeastOf (Some cell) (unshown b.cells accounts)
RefusesClose callers b accounts (Unsettled batch) = TellWhole callers b.history accounts × (unshown b.cells accounts ≡ []) × IsFirstOpen b.history batch
RefusesClose callers b accounts OutOfMemory = Unit {0}

-- the close was refused so at a book that keeps what the loader's does; nothing says that it was the locked one
abbrev pub CloseWasRefused : Service → List Account → CloseFault → Type 0
CloseWasRefused service accounts fault = (b : Book) × Keeps service b × RefusesClose service.callers b accounts fault
