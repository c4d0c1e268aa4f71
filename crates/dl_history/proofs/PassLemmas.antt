-- What holds of a pass once it has one call, one ticket or one outcome more.
use Rattle.std.proofs.Common.{◌≡◌, ◌∙◌, sym, ap, ℕ, zero, suc, ◌+◌, ◌-◌, ◌<◌, ◌≤◌, max, true, false, not, List, [], ◌∷◌, ◌++◌, length, set, Option, Some, None}
use Rattle.std.proofs.Common.{slice_get, get_or, refl, arith, length-append}
use Rattle.std.proofs.lemmas.List.{append-nil, length-set}
use Rattle.std.proofs.lemmas.Option.{get_or_from_slice_get, slice_get_within}
use Rattle.dl_history.specs.declared.pass.GivenTicket.{GivenTicket}
use Rattle.dl_history.specs.Lists.{Every, Among, one_if}
use Rattle.dl_history.specs.Entries.{PlacedEvent, Read, Entry, Called, Saw, calls_of, IsOwn, front_of, cells_of}
use Rattle.dl_history.specs.Pass.{Pass, PassFields, IsPass, pass_view, trace, given, unseen_of, with_saw}
use Rattle.dl_history.proofs.ListLemmas.{among_longer, total-append, every_append, every_weaker, every_at, every_set}
use Rattle.dl_history.proofs.EntryLists.{calls_of-append, cells_of-append, calls_few, front_of-push, ordered_call, ordered_saw, answered_call, answered_saw}

-- tickets of cells with which calls were answered still are
given_longer : (xs ys : List Entry) (gs : List GivenTicket) → Every (λ g. Among g.cell (cells_of xs)) gs → Every (λ g. Among g.cell (cells_of (xs ++ ys))) gs
given_longer xs ys gs each =
    every_weaker (λ g. Among g.cell (cells_of xs)) (λ g. Among g.cell (cells_of (xs ++ ys))) gs
    (λ g among. rw (cells_of-append xs ys) (among_longer g.cell (cells_of xs) (cells_of ys) among)) each

-- one ticket's outcome is among the entries now
pub unseen_of-saw : (gs : List GivenTicket) (n cell : ℕ) → slice_get gs n ≡ Some (given cell false) → unseen_of gs ≡ unseen_of (set gs n (given cell true)) + 1
unseen_of-saw [] n cell at = let is : ◌≡◌ {A = Option GivenTicket} None (Some (given cell false)) = at in absurd cc
unseen_of-saw (g ∷ gs) zero cell at =
    let is : ◌≡◌ {A = Option GivenTicket} (Some g) (Some (given cell false)) = at in
    let e : g ≡ given cell false = cc in
    rw e (omega arith)
unseen_of-saw (g ∷ gs) (suc n) cell at = let rest = unseen_of-saw gs n cell at in omega arith

-- ---- passes

-- a pass p that stands for these fields
module _ {callers : ℕ} {f : PassFields} (p : Pass) (old : IsPass callers f) (view : pass_view f ≡ p) where
  -- where there is room for more, no Vec is full
  pub pass_room : 0 < p.spare → (length f.entries + f.unseen < f.entry_room) × (length f.tickets < f.ticket_room)
  pass_room some =
      let spare = ap (λ v. v.spare) view in
      let entries = old.entries_fit in
      let tickets = old.tickets_fit in
      (omega arith, omega arith)

  -- so one call more can be counted
  pub pass_counts : 0 < p.spare → f.calls < f.entry_room
  pass_counts some =
      let fits = pass_room some in
      let few = calls_few f.entries in
      let e = old.calls_are in
      omega arith

  -- a ticket of it whose outcome is not among the entries
  module _ (n cell : ℕ) (gave : slice_get p.trace.tickets n ≡ Some (given cell false)) where
    pub gave_inside : slice_get f.tickets n ≡ Some (given cell false)
    gave_inside = let same = ap (λ v. v.trace.tickets) view in rw same gave

    -- it is one of those that are counted
    pub some_unseen : 1 ≤ f.unseen
    some_unseen = let one = unseen_of-saw f.tickets n cell gave_inside in let e = old.unseen_is in omega arith

    -- so there is room for its entry
    pub saw_fits : length f.entries < f.entry_room
    saw_fits = let some = some_unseen in let e = old.entries_fit in omega arith

    pub gave_within : n < length f.tickets
    gave_within = slice_get_within f.tickets n (given cell false) gave_inside

    -- it is the one that was read at its number
    pub ticket_read : (g : GivenTicket) → g ≡ get_or f.tickets n g → g.cell ≡ cell
    ticket_read g read = ap (λ x. x.cell) (read ∙ get_or_from_slice_get f.tickets n (given cell false) g gave_inside)

-- with other room, and the same in it
pub pass_grown : {callers : ℕ} {f : PassFields} {entries : List Entry} {tickets : List GivenTicket} {room ticket_room spare : ℕ} → IsPass callers f
    → entries ≡ f.entries → tickets ≡ f.tickets → length f.entries + f.unseen + spare ≤ room → length f.tickets + spare ≤ ticket_room
    → IsPass callers (record f { entries = entries; entry_room = room; tickets = tickets; ticket_room = ticket_room; spare = spare })
pass_grown old same_entries same_tickets entries_fit tickets_fit =
    rw (same_entries, same_tickets) (record {
      caller_is = old.caller_is;
      front_is = old.front_is;
      front_most = old.front_most;
      calls_are = old.calls_are;
      one_part = old.one_part;
      counted_are = old.counted_are;
      ordered = old.ordered;
      own = old.own;
      answered_are = old.answered_are;
      given_are = old.given_are;
      unseen_is = old.unseen_is;
      entries_fit = entries_fit;
      tickets_fit = tickets_fit;
    })

pub pass_call : {callers : ℕ} {f : PassFields} {entries : List Entry} {front calls parts counted room spare : ℕ} (p : Pass) (t : PlacedEvent) (entry : Entry)
    → IsPass callers f → pass_view f ≡ p
    → 0 < p.spare → front_of p.trace.entries ≤ t.at → t.event.caller ≡ p.trace.caller
    → entries ≡ f.entries ++ entry ∷ [] → entry ≡ Called t → t.at < 65536
    → front ≡ t.at + 1 → calls ≡ f.calls + 1 → parts ≡ f.parts → counted ≡ f.counted + 1 → room ≡ f.entry_room
    → spare ≡ f.spare - 1
    → IsPass callers (record f { entries = entries; entry_room = room; calls = calls; front = front; parts = parts; counted = counted; spare = spare })
pass_call {f = f} {entries = entries} p t entry old view some past_p own_p pushed is small front_is calls_is parts_is counted_is same spare_is =
    let room = ap (λ v. v.spare) view in
    let past : front_of f.entries ≤ t.at = let e = ap (λ v. front_of v.trace.entries) view in omega arith in
    let own : IsOwn _ t = own_p ∙ sym (ap (λ v. v.trace.caller) view) in
    let more = pushed ∙ ap (λ e. f.entries ++ e ∷ []) is in
    let calls = ap calls_of more ∙ calls_of-append f.entries (Called t ∷ []) in
    let one_more : length (calls_of entries) ≡ length (calls_of f.entries) + 1 = ap length calls ∙ length-append (calls_of f.entries) (t ∷ []) in
    let longer : length entries ≡ length f.entries + 1 = ap length more ∙ length-append f.entries (Called t ∷ []) in
    let front : front_of entries ≡ max (front_of f.entries) (t.at + 1) = ap front_of more ∙ front_of-push f.entries (Called t) in
    record {
      caller_is = old.caller_is;
      front_is = omega arith;
      front_most = omega arith;
      calls_are = let e = old.calls_are in omega arith;
      one_part = parts_is ∙ old.one_part;
      counted_are = let e = old.counted_are in omega arith;
      ordered = rw more (ordered_call 0 f.entries t (omega arith) past old.ordered);
      own = rw calls (every_append (IsOwn _) (calls_of f.entries) (t ∷ []) old.own (own, tt));
      answered_are = rw more (answered_call [] f.entries t old.answered_are);
      given_are = rw more (given_longer f.entries (Called t ∷ []) f.tickets old.given_are);
      unseen_is = old.unseen_is;
      entries_fit = let e = old.entries_fit in omega arith;
      tickets_fit = let e = old.tickets_fit in omega arith;
    }

pub pass_ticket : {callers : ℕ} {f : PassFields} {tickets : List GivenTicket} {unseen room spare : ℕ} (p : Pass) (cell : ℕ) → IsPass callers f → pass_view f ≡ p
    → 0 < p.spare → Among cell (cells_of p.trace.entries)
    → tickets ≡ f.tickets ++ given cell false ∷ [] → unseen ≡ f.unseen + 1 → room ≡ f.ticket_room → spare ≡ f.spare - 1
    → IsPass callers (record f { tickets = tickets; ticket_room = room; unseen = unseen; spare = spare })
pass_ticket {f = f} {tickets = tickets} p cell old view some among_p more unseen_is same spare_is =
    let room = ap (λ v. v.spare) view in
    let among : Among cell (cells_of f.entries) = let e = ap (λ v. v.trace.entries) view in rw e among_p in
    let longer : length tickets ≡ length f.tickets + 1 = ap length more ∙ length-append f.tickets (given cell false ∷ []) in
    let unseen : unseen_of tickets ≡ unseen_of f.tickets + 1 = ap unseen_of more ∙ total-append (λ g. one_if (not g.seen)) f.tickets (given cell false ∷ []) in
    record {
      caller_is = old.caller_is;
      front_is = old.front_is;
      front_most = old.front_most;
      calls_are = old.calls_are;
      one_part = old.one_part;
      counted_are = old.counted_are;
      ordered = old.ordered;
      own = old.own;
      answered_are = old.answered_are;
      given_are = rw more (every_append (λ g. Among g.cell (cells_of f.entries)) f.tickets (given cell false ∷ []) old.given_are (among, tt));
      unseen_is = let e = old.unseen_is in omega arith;
      entries_fit = let e = old.entries_fit in omega arith;
      tickets_fit = let e = old.tickets_fit in omega arith;
    }

pub pass_saw : {callers : ℕ} {f : PassFields} {entries : List Entry} {tickets : List GivenTicket} {front unseen room ticket_room : ℕ} (p : Pass) (n : ℕ)
    (r : Read) (entry : Entry) (g : GivenTicket) → IsPass callers f → pass_view f ≡ p
    → slice_get p.trace.tickets n ≡ Some (given r.cell false) → r.ending.at < 65536
    → entries ≡ f.entries ++ entry ∷ [] → entry ≡ Saw r → g ≡ get_or f.tickets n g → tickets ≡ set f.tickets n (given g.cell true)
    → front ≡ max f.front (r.ending.at + 1) → unseen ≡ f.unseen - 1 → room ≡ f.entry_room → ticket_room ≡ f.ticket_room
    → IsPass callers (record f { entries = entries; entry_room = room; front = front; tickets = tickets; ticket_room = ticket_room; unseen = unseen })
pass_saw {f = f} {entries = entries} {tickets = tickets} p n r entry g old view gave small pushed is read written front_is unseen_is room_is ticket_room_is =
    let at = gave_inside p old view n r.cell gave in
    let some = some_unseen p old view n r.cell gave in
    let more = pushed ∙ ap (λ e. f.entries ++ e ∷ []) is in
    let marked = written ∙ ap (λ k. set f.tickets n (given k true)) (ticket_read p old view n r.cell gave g read) in
    let calls : calls_of entries ≡ calls_of f.entries = ap calls_of more ∙ (calls_of-append f.entries (Saw r ∷ []) ∙ append-nil (calls_of f.entries)) in
    let longer : length entries ≡ length f.entries + 1 = ap length more ∙ length-append f.entries (Saw r ∷ []) in
    let front_now : front_of entries ≡ max (front_of f.entries) (r.ending.at + 1) = ap front_of more ∙ front_of-push f.entries (Saw r) in
    let among = every_at (λ g. Among g.cell (cells_of f.entries)) f.tickets n (given r.cell false) at old.given_are in
    let given_now = given_longer f.entries (Saw r ∷ []) f.tickets old.given_are in
    let among_now = every_at (λ g. Among g.cell (cells_of (f.entries ++ Saw r ∷ []))) f.tickets n (given r.cell false) at given_now in
    let unseen : unseen_of f.tickets ≡ unseen_of tickets + 1 = unseen_of-saw f.tickets n r.cell at ∙ ap (λ gs. unseen_of gs + 1) (sym marked) in
    let as_long : length tickets ≡ length f.tickets = ap length marked ∙ length-set f.tickets n (given r.cell true) in
    record {
      caller_is = old.caller_is;
      front_is = let e = old.front_is in omega arith;
      front_most = let e = old.front_most in omega arith;
      calls_are = old.calls_are ∙ ap length (sym calls);
      one_part = old.one_part;
      counted_are = old.counted_are ∙ ap length (sym calls);
      ordered = rw more (ordered_saw 0 f.entries r old.ordered);
      own = rw calls old.own;
      answered_are = rw more (answered_saw [] f.entries r among old.answered_are);
      given_are = rw (more, marked) (every_set (λ g. Among g.cell (cells_of (f.entries ++ Saw r ∷ []))) f.tickets n (given r.cell true) among_now given_now);
      unseen_is = let e = old.unseen_is in omega arith;
      entries_fit = let e = old.entries_fit in omega arith;
      tickets_fit = let e = old.tickets_fit in omega arith;
    }

-- the trace once the outcome is among the entries
pub trace_saw : {callers : ℕ} {f : PassFields} {entries : List Entry} {tickets : List GivenTicket} (p : Pass) (n : ℕ) (r : Read) (entry : Entry)
    (g : GivenTicket) → IsPass callers f → pass_view f ≡ p → slice_get p.trace.tickets n ≡ Some (given r.cell false)
    → entries ≡ f.entries ++ entry ∷ [] → entry ≡ Saw r → g ≡ get_or f.tickets n g → tickets ≡ set f.tickets n (given g.cell true)
    → trace f.caller entries tickets ≡ with_saw p.trace n r.cell r.ending false
trace_saw {f = f} p n r entry g old view gave pushed is read written =
    let marked = written ∙ ap (λ k. set f.tickets n (given k true)) (ticket_read p old view n r.cell gave g read) in
    rw (pushed, is, marked, ← view) refl
