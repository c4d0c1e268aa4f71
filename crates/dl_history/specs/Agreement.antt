-- When what a caller knows agrees with a history.
use Rattle.std.specs.Prelude.{◌≡◌, ℕ, ◌<◌, ◌≤◌, List, [], ◌∷◌, map, filter, flat_map, Some, IfSome, slice_get, count_by, nat_eq, if◌then◌else◌}
use Rattle.dl_history.specs.Entries.{Entry, Called, Saw, calls_of, IsOwn, front_of, Ordered, Answered}
use Rattle.dl_history.specs.History.{ending_of}
use Rattle.dl_history.specs.Journal.{Cell, cell_refused}
use Rattle.dl_history.specs.Lists.{Every, Among, places}
use Rattle.dl_desk.specs.declared.event.Event.{Event}

-- ---- accounts

-- what a pass leaves when its loader closes: its caller and its entries
pub record Account : Type 0 where
  pub caller : ℕ
  pub entries : List Entry

abbrev pub account : ℕ → List Entry → Account
account caller entries = record { caller = caller; entries = entries }

-- how many of the accounts are the caller's
abbrev pub accounts_by : ℕ → List Account → ℕ
accounts_by n accounts = count_by (λ a. nat_eq n a.caller) accounts

-- each caller has exactly one of the accounts
abbrev pub HasEach : ℕ → List Account → Type 0
HasEach callers accounts = (n : ℕ) → n < callers → accounts_by n accounts ≡ 1

-- the entries of a caller's account, and none if it has no account
abbrev pub entries_of : ℕ → List Account → List Entry
entries_of n [] = []
entries_of n (a ∷ accounts) = if nat_eq n a.caller then a.entries else entries_of n accounts

-- ---- agreement

-- the places of the calls among the entries, in order
abbrev pub places_of : List Entry → List ℕ
places_of entries = map (λ t. t.at) (calls_of entries)

-- The history has what an entry says: a call's event, at its place; and for a cell that was read the same outcome, with
-- the place of the event that gave it.
abbrev pub Tells : List Event → Entry → Type 0
Tells history (Called t) = slice_get history t.at ≡ Some t.event
Tells history (Saw r) = ending_of history r.cell ≡ Some r.ending

-- The entries are their caller's part of the history: the places of the calls are those of the caller's events, in
-- order; the history has what each entry says; each cell that was read is one that a call before it got in reply; and
-- each call has a place above those of all calls and reads before it.
pub record Agrees (history : List Event) (a : Account) : Type 0 where
  pub places_are : places_of a.entries ≡ places (λ e. e.caller) a.caller 0 history
  pub tells : Every (Tells history) a.entries
  pub answered_are : Answered [] a.entries
  pub ordered : Ordered 0 a.entries

-- An account has its caller's calls of the history: their places are those of the caller's events, in order, and each
-- has the event at its place.
pub record HasCalls (history : List Event) (a : Account) : Type 0 where
  pub places_are : places_of a.entries ≡ places (λ e. e.caller) a.caller 0 history
  pub tell : Every (λ t. slice_get history t.at ≡ Some t.event) (calls_of a.entries)

-- ---- what holds without a look at the history

-- what a pass keeps of its caller and its entries
pub record IsAccount (callers : ℕ) (a : Account) : Type 0 where
  pub caller_is : a.caller < callers
  pub ordered : Ordered 0 a.entries
  pub own : Every (IsOwn a.caller) (calls_of a.entries)
  pub answered_are : Answered [] a.entries

-- if the book has an event at the call's place, or knows what the cell that was read shows, the entry has the same
abbrev pub Meets : List Event → List Cell → Entry → Type 0
Meets history cells (Called t) = IfSome (slice_get history t.at) (λ e. e ≡ t.event)
Meets history cells (Saw r) = IfSome (slice_get cells r.cell) (λ x. IfSome x.shows (λ e. e ≡ r.ending))

-- an account of a caller, whose entries meet what the book has
pub record Fits (callers : ℕ) (history : List Event) (cells : List Cell) (a : Account) : Type 0 where
  pub is_account : IsAccount callers a
  pub meets : Every (Meets history cells) a.entries

-- no account has seen more events than there are
abbrev pub NoneBehind : ℕ → List Account → Type 0
NoneBehind len accounts = (a : Account) → Among a accounts → front_of a.entries ≤ len

-- ---- outcomes that were read of cells that refused theirs

abbrev pub read_in : Entry → List ℕ
read_in (Called t) = []
read_in (Saw r) = r.cell ∷ []

-- the cells whose outcome is among the entries of the accounts
abbrev pub reads_of : List Account → List ℕ
reads_of accounts = flat_map (λ a. flat_map read_in a.entries) accounts

-- those of the numbers whose cells refused their outcome
abbrev pub refused_in : List Cell → List ℕ → List ℕ
refused_in cells ns = filter (λ c. cell_refused (slice_get cells c)) ns

-- the cells that refused their outcome, though the accounts have one of them
abbrev pub unshown : List Cell → List Account → List ℕ
unshown cells accounts = refused_in cells (reads_of accounts)
