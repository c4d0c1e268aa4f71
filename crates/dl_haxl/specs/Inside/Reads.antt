-- What a pass gains by reading the outcomes of tickets.
use Rattle.std.specs.Prelude.{◌≡◌, ◌≢◌, ℕ, List, ◌++◌, map, Some, slice_get}
use Rattle.dl_desk.specs.declared.event.Ending.{Ending}
use Rattle.dl_loader.specs.Additions.{saws}
use Rattle.dl_loader.specs.Pass.{Trace, Ticket, GaveTickets}
use Rattle.dl_history.specs.declared.pass.GivenTicket.{GivenTicket}

-- the pass gave the tickets one after another, and read none of their outcomes yet
abbrev pub GaveFresh : Trace → List Ticket → Type 0
GaveFresh p ts = (first : ℕ) × GaveTickets p first ts

-- each of the tickets shows its ending, and the pass has read them, in order
pub record Reads (old new : Trace) (before ts : List Ticket) : Type 0 where
  pub endings : List Ending
  pub caller : new.caller ≡ old.caller
  pub replies : map (λ t. t.reply) ts ≡ map (λ t. t.reply) before
  pub known : map (λ t. t.known) ts ≡ map Some endings
  pub entries : new.entries ≡ old.entries ++ saws (map (λ t. t.reply) before) endings

-- each ticket that the pass had given and that is none of these stands as it stood
abbrev pub KeepsOthers : List Ticket → Trace → Trace → Type 0
KeepsOthers ts old new = (number : ℕ) (given : GivenTicket) → ((i : ℕ) (t : Ticket) → slice_get ts i ≡ Some t → t.number ≢ number)
    → slice_get old.tickets number ≡ Some given → slice_get new.tickets number ≡ Some given
