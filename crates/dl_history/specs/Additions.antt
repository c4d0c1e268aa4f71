-- What calls and reads add to the entries of a pass.
use Rattle.std.specs.Prelude.{◌≡◌, ℕ, List, [], ◌∷◌, ◌++◌, Some, slice_get}
use Rattle.dl_desk.specs.declared.reply.LoadReply.{LoadReply}
use Rattle.dl_history.specs.Entries.{Entry, Called, Saw, event_at, read, cell_of_load}
use Rattle.dl_desk.specs.declared.event.Call.{Call}
use Rattle.dl_desk.specs.declared.event.Ending.{Ending}
use Rattle.dl_desk.specs.declared.event.Reply.{Reply}
use Rattle.dl_history.specs.declared.pass.GivenTicket.{GivenTicket}
use Rattle.dl_history.specs.Pass.{Trace}

-- the entry of a caller's call at a place, with its reply
abbrev pub call_entry : ℕ → ℕ → Call → Reply → Entry
call_entry caller at call reply = Called (event_at at (record { caller = caller; call = call; reply = reply }))

-- the entries of the outcomes that were read of loads with these replies, in order
abbrev pub saws : List LoadReply → List Ending → List Entry
saws [] ends = []
saws (r ∷ rs) [] = []
saws (r ∷ rs) (e ∷ es) = Saw (read (cell_of_load r) e) ∷ saws rs es

-- the pass still has its caller and its entries, and this holds of the entries that are new
abbrev pub Adds : Trace → Trace → (List Entry → Type 0) → Type 0
Adds old new P = (new.caller ≡ old.caller) × (added : List Entry) × (new.entries ≡ old.entries ++ added) × P added

-- the pass still has its caller, and has lost no entry
abbrev pub Grows : Trace → Trace → Type 0
Grows old new = (new.caller ≡ old.caller) × (added : List Entry) × (new.entries ≡ old.entries ++ added)

-- each ticket that the pass had given is as it was, whatever the pass gave and read since
abbrev pub KeepsTickets : Trace → Trace → Type 0
KeepsTickets old new = (number : ℕ) (given : GivenTicket) → slice_get old.tickets number ≡ Some given → slice_get new.tickets number ≡ Some given
