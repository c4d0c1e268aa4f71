-- What contracts see of a pass, and of a ticket.
use Rattle.std.specs.Prelude.{◌≡◌, ℕ, zero, suc, ◌+◌, ◌<◌, ◌≤◌, Bool, true, false, not, List, [], ◌∷◌, ◌++◌, length, map, set, Option, Some}
use Rattle.std.specs.Prelude.{slice_get}
use Rattle.dl_values.specs.declared.outcome.Outcome.{Outcome}
use Rattle.dl_desk.specs.declared.reply.LoadReply.{LoadReply}
use Rattle.dl_desk.specs.declared.event.Event.{Event}
use Rattle.dl_desk.specs.declared.event.Ending.{Ending}
use Rattle.dl_history.specs.declared.pass.GivenTicket.{GivenTicket}
use Rattle.dl_history.specs.Flags.{KnownFlags}
use Rattle.dl_history.specs.Lists.{Every, Among, total, one_if}
use Rattle.dl_history.specs.Entries.{event_at, Entry, Called, Saw, read, calls_of, IsOwn, front_of, Ordered, cell_of_load, cells_of, Answered}

-- ---- passes

-- a caller, its entries, and the tickets that it got, in order
pub record Trace : Type 0 where
  pub caller : ℕ
  pub entries : List Entry
  pub tickets : List GivenTicket

abbrev pub trace : ℕ → List Entry → List GivenTicket → Trace
trace caller entries tickets = record { caller = caller; entries = entries; tickets = tickets }

-- what contracts see of a pass: its trace; how many more entries and tickets it has room for, on top of an entry for
-- each ticket whose outcome isn't among the entries yet; and what its caller knows of the loader's flags
pub record Pass : Type 0 where
  pub trace : Trace
  pub spare : ℕ
  pub flags : KnownFlags

-- the fields of a pass, with its room for entries and tickets, and its share of the ledger: how many parts it has, and
-- how many calls these have counted
pub record PassFields : Type 0 where
  pub caller : ℕ
  pub entries : List Entry
  pub entry_room : ℕ
  pub calls : ℕ
  pub front : ℕ
  pub tickets : List GivenTicket
  pub ticket_room : ℕ
  pub unseen : ℕ
  pub spare : ℕ
  pub parts : ℕ
  pub counted : ℕ
  pub flags : KnownFlags

-- what contracts see of them
abbrev pub pass_view : PassFields → Pass
pass_view fields = record {
  trace = trace fields.caller fields.entries fields.tickets;
  spare = fields.spare;
  flags = fields.flags;
}

-- how many of the tickets have no entry of their outcome
abbrev pub unseen_of : List GivenTicket → ℕ
unseen_of gs = total (λ g. one_if (not g.seen)) gs

-- what holds of them, if there are this many callers
pub record IsPass (callers : ℕ) (fields : PassFields) : Type 0 where
  pub caller_is : fields.caller < callers
  pub front_is : fields.front ≡ front_of fields.entries
  pub front_most : fields.front ≤ 65536
  pub calls_are : fields.calls ≡ length (calls_of fields.entries)
  pub one_part : fields.parts ≡ 1
  pub counted_are : fields.counted ≡ length (calls_of fields.entries)
  pub ordered : Ordered 0 fields.entries
  pub own : Every (IsOwn fields.caller) (calls_of fields.entries)
  pub answered_are : Answered [] fields.entries
  pub given_are : Every (λ g. Among g.cell (cells_of fields.entries)) fields.tickets
  pub unseen_is : fields.unseen ≡ unseen_of fields.tickets
  pub entries_fit : length fields.entries + fields.unseen + fields.spare ≤ fields.entry_room
  pub tickets_fit : length fields.tickets + fields.spare ≤ fields.ticket_room

-- the trace with one call more
abbrev pub with_call : Trace → ℕ → Event → Trace
with_call p at e = trace p.caller (p.entries ++ Called (event_at at e) ∷ []) p.tickets

abbrev pub given : ℕ → Bool → GivenTicket
given cell seen = record { cell = cell; seen = seen }

-- the trace with one ticket more, whose outcome isn't among the entries
abbrev pub with_ticket : Trace → ℕ → Trace
with_ticket p cell = trace p.caller p.entries (p.tickets ++ given cell false ∷ [])

-- the trace with one ticket more for each load
abbrev pub with_tickets : Trace → List LoadReply → Trace
with_tickets p [] = p
with_tickets p (r ∷ rs) = with_tickets (with_ticket p (cell_of_load r)) rs

-- the trace once the outcome of a ticket is among the entries
abbrev pub with_saw : Trace → ℕ → ℕ → Ending → Bool → Trace
with_saw p number cell e true = p
with_saw p number cell e false = trace p.caller (p.entries ++ Saw (read cell e) ∷ []) (set p.tickets number (given cell true))

-- the traces of the callers from k on that have made no call
abbrev pub new_traces : ℕ → ℕ → List Trace
new_traces k zero = []
new_traces k (suc n) = trace k [] [] ∷ new_traces (k + 1) n

-- ---- tickets

-- what contracts see of a ticket: its number among those of its pass, the reply to its load, and what it knows of its cell
pub record Ticket : Type 0 where
  pub number : ℕ
  pub reply : LoadReply
  pub known : Option Ending

abbrev pub ticket : ℕ → LoadReply → Option Ending → Ticket
ticket number reply known = record { number = number; reply = reply; known = known }

-- the ticket knows that its cell has ended with this outcome
abbrev pub Shows : Ticket → Outcome → Type 0
Shows t outcome = (ending : Ending) × (t.known ≡ Some ending) × (ending.outcome ≡ outcome)

-- the pass gave the ticket, and its outcome is among the entries or isn't
abbrev pub GaveTicket : Trace → Ticket → Bool → Type 0
GaveTicket p t seen = slice_get p.tickets t.number ≡ Some (given (cell_of_load t.reply) seen)

-- tickets for loads with these replies, in order, with the numbers from `first` on
pub record AreTickets (first : ℕ) (replies : List LoadReply) (ts : List Ticket) : Type 0 where
  pub replies_are : map (λ t. t.reply) ts ≡ replies
  pub numbered : (i : ℕ) (t : Ticket) → slice_get ts i ≡ Some t → t.number ≡ first + i

-- the pass gave each of the tickets, which have the numbers from `first` on, and saw none of their outcomes
pub record GaveTickets (p : Trace) (first : ℕ) (ts : List Ticket) : Type 0 where
  pub numbered : (i : ℕ) (t : Ticket) → slice_get ts i ≡ Some t → t.number ≡ first + i
  pub gave : (i : ℕ) (t : Ticket) → slice_get ts i ≡ Some t → GaveTicket p t false
