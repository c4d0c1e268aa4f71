-- What an event leaves in the book and in the pass of its caller.
use Rattle.std.specs.Prelude.{◌≡◌, ℕ, ◌≤◌, true, List, [], ◌∷◌, ◌++◌, length, Option}
use Rattle.dl_values.specs.declared.job.Job.{Job}
use Rattle.dl_desk.specs.declared.reply.LoadReply.{LoadReply}
use Rattle.dl_desk.specs.declared.event.Event.{Event}
use Rattle.dl_desk.specs.declared.event.Call.{Call}
use Rattle.dl_desk.specs.declared.event.Reply.{Reply}
use Rattle.dl_desk.specs.declared.event.Reply.TheVariants.{Loaded, Many}
use Rattle.dl_history.specs.Pass.{Trace, with_call, with_tickets}
use Rattle.dl_desk.specs.Service.{Service}
use Rattle.dl_history.specs.Entries.{front_of}
use Rattle.dl_loader.specs.Book.{Book, Keeps}
use Rattle.dl_loader.specs.Refusals.{IsRefusal}
use Rattle.dl_history.specs.declared.fault.CallFault.{CallFault}
use Rattle.dl_history.specs.declared.fault.CallFault.TheVariants.{Stopped}
use Rattle.dl_history.specs.Flags.{KnownFlags}

-- the event of a caller's call
abbrev pub event_of : Trace → Call → Reply → Event
event_of p call reply = record { caller = p.caller; call = call; reply = reply }

-- the loads that a reply answers: for each of them the caller gets a ticket
abbrev pub loads_of : Reply → List LoadReply
loads_of (Loaded r) = r ∷ []
loads_of (Many rs) = rs
loads_of reply = []

-- the trace after its event at a place, with its tickets
abbrev pub with_event : Trace → ℕ → Call → Reply → Trace
with_event p at call reply = with_tickets (with_call p at (event_of p call reply)) (loads_of reply)

-- The event is the last of the history, and the last call among the pass's entries, at its place.
pub record Makes (before : Book) (old : Trace) (call : Call) (reply : Reply) (now : Book) (new : Trace) : Type 0 where
  pub history : now.history ≡ before.history ++ event_of old call reply ∷ []
  pub trace : new ≡ with_event old (length before.history) call reply
  pub flags : now.flags ≡ before.flags

-- ---- what a caller knows of a call under the lock

-- the call was made so at a book that keeps what the loader's does, and has at least as many events as the pass had seen
abbrev pub WasMade : Service → Trace → Call → Reply → Trace → Type 0
WasMade service old call reply new =
    (before now : Book) × Keeps service before × Keeps service now × (front_of old.entries ≤ length before.history) × Makes before old call reply now new

-- the call was refused so at a book that keeps what the loader's does; nothing says that it was the locked one
abbrev pub WasRefused : Service → Trace → Call → Option Job → CallFault → Type 0
WasRefused service p call job fault = (before : Book) × Keeps service before × IsRefusal service before p call job fault

-- Whoever meets the fault that the loader is stopped knows the flag that says so.
abbrev pub KnowsStop : KnownFlags → CallFault → Type 0
KnowsStop flags fault = fault ≡ Stopped → flags.stopped ≡ true
