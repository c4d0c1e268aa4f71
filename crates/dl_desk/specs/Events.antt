-- Events: the calls of several callers, each with its reply, what they are as atoms, and which of them ended a cell.
use Rattle.std.specs.Prelude.{ℕ, Bool, false, List, [], ◌∷◌, ◌++◌, length, map, reverse, Option, Some, None, option_map, if◌then◌else◌, nat_eq}
use Rattle.std.specs.Option.{option_or, option_and_then}
use Rattle.std.specs.List.{zip}
use Rattle.std.specs.Map.{lookup}
use Rattle.dl_values.specs.Key.{Key}
use Rattle.dl_values.specs.declared.outcome.Outcome.{Outcome}
use Rattle.dl_values.specs.declared.outcome.Outcome.TheVariants.{BatchFailed}
use Rattle.dl_desk.specs.History.{Atom, Begun, begins, members}
use Rattle.dl_desk.specs.History as atom
use Rattle.dl_desk.specs.declared.event.Event.{Event}
use Rattle.dl_desk.specs.declared.event.Call.{Call}
use Rattle.dl_desk.specs.declared.event.Call.TheVariants.{Load, LoadMany, Prime, Clear, ClearAll, Dispatch, Settle, Fail}
use Rattle.dl_desk.specs.declared.event.Reply.{Reply}
use Rattle.dl_desk.specs.declared.event.Reply.TheVariants.{Loaded, Many, Primed, Kept, Sent}
use Rattle.dl_desk.specs.declared.reply.LoadReply.{LoadReply}
use Rattle.dl_desk.specs.declared.reply.DeskPrime.TheVariants as prime

-- A past is a list of events, the newest first. The place of an event is the number of events before it, so that of the
-- newest is the length of the rest.

-- ---- the history of a past

-- the loads of the keys with their replies, the newest first
abbrev pub loads : List Key → List LoadReply → List Atom
loads ks rs = reverse (map (λ p. atom.Load p.0 p.1) (zip ks rs))

-- the atoms of a call with its reply, the newest first: a loadMany counts as its loads
abbrev pub call_atoms : Call → Reply → List Atom
call_atoms (Load k) (Loaded r) = atom.Load k r ∷ []
call_atoms (LoadMany ks) (Many rs) = loads ks rs
call_atoms (Prime k o) (Primed c) = atom.Prime k (prime.Primed c) ∷ []
call_atoms (Prime k o) Kept = atom.Prime k prime.Kept ∷ []
call_atoms (Clear k) reply = atom.Clear k ∷ []
call_atoms ClearAll reply = atom.ClearAll ∷ []
call_atoms Dispatch (Sent js) = atom.Dispatch js ∷ []
call_atoms (Settle b os) reply = atom.Settle b ∷ []
call_atoms (Fail b fault) reply = atom.Fail b ∷ []
call_atoms call reply = []

-- the history of atoms that the events are
abbrev pub atoms : List Event → List Atom
atoms [] = []
atoms (e ∷ before) = call_atoms e.call e.reply ++ atoms before

-- ---- the end of a cell

-- an event of a past, and its place there
pub record Placed : Type 0 where
  pub place : ℕ
  pub event : Event

abbrev pub newest : List Event → Event → Placed
newest before e = record { place = length before; event = e }

-- the newest event that passes the test
abbrev pub last_of : (Event → Bool) → List Event → Option Placed
last_of test [] = None
last_of test (e ∷ before) = if test e then Some (newest before e) else last_of test before

abbrev pub begins_primed : ℕ → Reply → Bool
begins_primed c (Primed d) = nat_eq c d
begins_primed c reply = false

-- whether the event is the prime that begins the cell
abbrev pub primes : ℕ → Event → Bool
primes c e = begins_primed c e.reply

abbrev pub ends_batch : ℕ → Call → Bool
ends_batch b (Settle n os) = nat_eq b n
ends_batch b (Fail n fault) = nat_eq b n
ends_batch b call = false

-- whether the event settles or fails the batch
abbrev pub ends : ℕ → Event → Bool
ends b e = ends_batch b e.call

abbrev pub batch_at : ℕ → Option Begun → Option ℕ → Option ℕ
batch_at c None rest = rest
batch_at c (Some g) rest = if nat_eq c g.cell then g.batch else rest

-- the batch of the fresh load that began the cell
abbrev pub cell_batch : List Atom → ℕ → Option ℕ
cell_batch [] c = None
cell_batch (a ∷ before) c = batch_at c (begins a) (cell_batch before c)

-- the event that ended the cell: the prime that began it, or the settle or fail of its batch
abbrev pub ending : List Event → ℕ → Option Placed
ending past c = option_or (last_of (primes c) past) (option_and_then (λ b. last_of (ends b) past) (cell_batch (atoms past) c))

-- the place of that event
abbrev pub ended : List Event → ℕ → Option ℕ
ended past c = option_map (λ p. p.place) (ending past c)

-- ---- the outcome of a cell

-- the cells of a batch's members, in order
abbrev pub batch_cells : List Atom → Option ℕ → List ℕ
batch_cells history None = []
batch_cells history (Some b) = map (λ m. m.1) (members history b)

-- What a call gives to a cell that it ends: a prime its outcome, a settle the outcome at the cell's place among its
-- batch's members, a fail its fault.
abbrev pub outcome_given : List Atom → ℕ → Call → Option Outcome
outcome_given history c (Prime k o) = Some o
outcome_given history c (Settle b os) = lookup (nat_eq c) (zip (batch_cells history (cell_batch history c)) os)
outcome_given history c (Fail b fault) = Some (BatchFailed fault)
outcome_given history c call = None

-- the outcome that the event which ended the cell gave it
abbrev pub outcome : List Event → ℕ → Option Outcome
outcome past c = option_and_then (λ p. outcome_given (atoms past) c p.event.call) (ending past c)
