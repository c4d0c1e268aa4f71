-- An event that may stand next in the history of a book, and what the book keeps with it.
use Rattle.std.proofs.Common.{◌≡◌, ℕ, ◌<◌, ◌≤◌, Bool, true, false, cond, length, Option, Some, None, nat_lt, nat_le, refl, ◌∙◌, sym, subst, ◌+◌, List}
use Rattle.std.proofs.Common.{[], ◌∷◌, ◌++◌, slice_get, arith, length-append}
use Rattle.std.proofs.lemmas.Bool.{ltb-false, leb-false}
use Rattle.dl_history.specs.declared.fault.CallFault.{CallFault}
use Rattle.dl_history.specs.declared.fault.CallFault.TheVariants.{Stopped, Behind, LogFull}
use Rattle.dl_desk.specs.Service.{Service}
use Rattle.dl_history.specs.Entries.{front_of}
use Rattle.dl_loader.specs.Book.{Book, Keeps, state_of}
use Rattle.dl_history.specs.Pass.{Trace}
use Rattle.dl_loader.specs.Refusals.{unready}
use Rattle.std.specs.List.{repeat}
use Rattle.dl_values.specs.Limits.{Rules}
use Rattle.dl_desk.specs.History.{cells}
use Rattle.dl_desk.specs.Events.{atoms}
use Rattle.dl_desk.specs.Calls.{after}
use Rattle.dl_desk.specs.BatchBook.{BatchBook, StandsFor}
use Rattle.dl_desk.specs.declared.event.Event.{Event}
use Rattle.dl_desk.specs.declared.event.Call.{Call}
use Rattle.dl_desk.specs.declared.event.Reply.{Reply}
use Rattle.dl_desk.specs.Legal.{call_of, reply_to, MayBeMade, IsNext}
use Rattle.dl_history.specs.History.{past, ending_of}
use Rattle.dl_history.specs.Journal.{Cell, Journal, waiting}
use Rattle.dl_history.specs.LoaderState.{LoaderState, loader_state, IsLoaderState, ShowsEnd}
use Rattle.dl_history.proofs.Pasts.{atoms_next, legal_more}
use Rattle.dl_history.specs.Record.{Recorded}
use Rattle.dl_loader.specs.Inside.Preparation.{Steps}

-- ---- a pass that may make an event

ready_at : (limit front len : ℕ) (stopped behind full : Bool) → nat_lt len front ≡ behind → nat_le limit len ≡ full
    → cond stopped (Some Stopped) (cond behind (Some (Behind front len)) (cond full (Some (LogFull limit)) None)) ≡ None → (front ≤ len) × (len < limit)
ready_at limit front len true behind full b f none = absurd (let bad : ◌≡◌ {A = Option CallFault} (Some Stopped) None = none in cc)
ready_at limit front len false true full b f none = absurd (let bad : ◌≡◌ {A = Option CallFault} (Some (Behind front len)) None = none in cc)
ready_at limit front len false false true b f none = absurd (let bad : ◌≡◌ {A = Option CallFault} (Some (LogFull limit)) None = none in cc)
ready_at limit front len false false false b f none = (ltb-false len front b, leb-false limit len f)

-- a pass that may make an event has seen no more than there is, and the history has room
pub ready_facts : (s : Service) (b : Book) (p : Trace) → unready s b p ≡ None
    → (front_of p.entries ≤ length b.history) × (length b.history < s.rules.limits.max_calls)
ready_facts s b p none =
    ready_at s.rules.limits.max_calls (front_of p.entries) (length b.history) b.flags.stopped (nat_lt (length b.history) (front_of p.entries))
    (nat_le s.rules.limits.max_calls (length b.history)) refl refl none

-- ---- an event more

-- A caller may make an event in a book as it is seen, which keeps what it keeps and has room for the event.
pub record MayCall (s : Service) (seen : LoaderState) (caller : ℕ) : Type 0 where
  pub kept : IsLoaderState s seen
  pub room : length seen.history < s.rules.limits.max_calls
  pub below : caller < s.callers

-- so may the caller of a pass that is ready
pub may_call : {s : Service} {view b : Book} {caller : ℕ} (p : Trace) → view ≡ b → Keeps s view → unready s b p ≡ None → caller ≡ p.caller
    → p.caller < s.callers → MayCall s (state_of view) caller
may_call {s} {view} p is keeps ready own below = record {
  kept = keeps;
  room = (ready_facts s view p (subst (λ (x : Book). unready s x p ≡ None) (sym is) ready)).1;
  below = omega arith;
}

abbrev pub event : ℕ → Call → Reply → Event
event caller call reply = record { caller = caller; call = call; reply = reply }

-- The event is in the history of the book that was seen, with as many cells more as it began, which wait.
pub record Gained (seen : LoaderState) (e : Event) (n : ℕ) (now : List Event) (ys : List Cell) : Type 0 where
  pub history : now ≡ seen.history ++ e ∷ []
  pub cells : ys ≡ seen.cells ++ repeat n (waiting ∷ [])

-- so it is once its journal has recorded it
pub gained : {before now : Journal} {desk : BatchBook} {old new : Trace} {e : Event} {n : ℕ} → Recorded before now old new e n
    → Gained (loader_state before.history desk before.cells) e n now.history now.cells
gained recorded = record { history = recorded.history; cells = recorded.cells }

-- ---- one that may stand next

-- An event that may stand next in a book, which keeps what it keeps and has room for it.
pub record MayStand (s : Service) (seen : LoaderState) (e : Event) : Type 0 where
  pub kept : IsLoaderState s seen
  pub room : length seen.history < s.rules.limits.max_calls
  pub next : IsNext s (past seen.history) e

-- so does a call that a caller may make, with its reply
pub may_stand : {s : Service} {seen : LoaderState} (e : Event) → MayCall s seen e.caller → e.reply ≡ reply_to s.rules (atoms (past seen.history)) e.call
    → MayBeMade s.answer (atoms (past seen.history)) e.call → MayStand s seen e
may_stand e may reply made = record { kept = may.kept; room = may.room; next = record { caller = may.below; reply = reply; made = made } }

-- the book with the event
abbrev pub grown : LoaderState → Event → BatchBook → List Cell → LoaderState
grown seen e new ys = loader_state (seen.history ++ e ∷ []) new ys

-- the cells that were begun are those that the history has
pub begun_cells : {s : Service} {seen : LoaderState} → IsLoaderState s seen → length seen.cells ≡ cells (atoms (past seen.history))
begun_cells keeps = keeps.all_cells ∙ keeps.desk.cells

-- what the book keeps, where each cell shows the end that it has after one event more
pub keeps_more : {s : Service} {seen : LoaderState} {e : Event} {new : BatchBook} {ys : List Cell} → MayStand s seen e → Steps seen.desk new (call_of e.call)
    → length ys ≡ new.cells → new.cells ≤ s.rules.limits.max_cells
    → ((c : ℕ) (x : Cell) → slice_get ys c ≡ Some x → ShowsEnd (ending_of (seen.history ++ e ∷ []) c) x.mark x.shows) → IsLoaderState s (grown seen e new ys)
keeps_more {s} {seen} {e} {new} g step all fit ends = record {
  legal = legal_more s seen.history e g.kept.legal g.next;
  calls_fit =
      let room = g.room in
      let long : length (seen.history ++ e ∷ []) ≡ length seen.history + 1 = length-append seen.history (e ∷ []) in
      omega arith;
  rules = step.rules ∙ g.kept.rules;
  desk =
      let H = atoms (past seen.history) in
      let stands = subst (λ (r : Rules). StandsFor new (after r H (call_of e.call))) g.kept.rules (step.stands H g.kept.desk) in
      subst (StandsFor new) (sym (atoms_next s seen.history e g.next)) stands;
  all_cells = all;
  cells_fit = fit;
  ends = ends;
}
