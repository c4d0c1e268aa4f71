-- A pass has given each ticket that it gave, also once outcomes of tickets were read.
use Rattle.std.proofs.Common.{◌≡◌, ◌∙◌, sym, ap, refl, ℕ, zero, suc, Bool, true, false, List, [], ◌∷◌, map, set}
use Rattle.std.proofs.Common.{Option, Some, None, slice_get, option_map}
use Rattle.std.proofs.lemmas.Option.{slice_get-map}
use Rattle.dl_desk.specs.declared.event.Ending.{Ending}
use Rattle.dl_history.specs.declared.pass.GivenTicket.{GivenTicket}
use Rattle.dl_history.specs.Entries.{cell_of_load}
use Rattle.dl_history.specs.Pass.{Trace, Ticket, GaveTicket, given, with_saw}

-- the cells of tickets, which reads leave as they are
abbrev pub cells : List GivenTicket → List ℕ
cells gs = map (λ (g : GivenTicket). g.cell) gs

-- the outcome of the ticket is among the entries of the later trace
abbrev pub WasRead : Trace → Ticket → Ending → Trace → Type 0
WasRead p t e q = (seen : Bool) × GaveTicket p t seen × (q ≡ with_saw p t.number (cell_of_load t.reply) e seen)

set_cells : (gs : List GivenTicket) (i c : ℕ) → slice_get gs i ≡ Some (given c false) → cells (set gs i (given c true)) ≡ cells gs
set_cells [] i c is = refl
set_cells (g ∷ gs) zero c is =
    let same : g ≡ given c false = (let two : ◌≡◌ {A = Option GivenTicket} (Some g) (Some (given c false)) = is in cc) in
    ap (λ (x : GivenTicket). x.cell ∷ cells gs) (sym same)
set_cells (g ∷ gs) (suc i) c is = ap (λ cs. g.cell ∷ cs) (set_cells gs i c is)

saw_cells : (p : Trace) (t : Ticket) (e : Ending) (seen : Bool) → GaveTicket p t seen
    → cells (with_saw p t.number (cell_of_load t.reply) e seen).tickets ≡ cells p.tickets
saw_cells p t e true is = refl
saw_cells p t e false is = set_cells p.tickets t.number (cell_of_load t.reply) is

pub read_cells : (p : Trace) (t : Ticket) (e : Ending) (q : Trace) → WasRead p t e q → cells q.tickets ≡ cells p.tickets
read_cells p t e q (seen, gave, is) = ap (λ (r : Trace). cells r.tickets) is ∙ saw_cells p t e seen gave

found : (gs : List GivenTicket) (i c : ℕ) → option_map (λ (g : GivenTicket). g.cell) (slice_get gs i) ≡ Some c
    → (seen : Bool) × (slice_get gs i ≡ Some (given c seen))
found [] i c is = absurd (let bad : ◌≡◌ {A = Option ℕ} None (Some c) = is in cc)
found (g ∷ gs) zero c is =
    let same : g.cell ≡ c = (let two : ◌≡◌ {A = Option ℕ} (Some g.cell) (Some c) = is in cc) in
    (g.seen, ap (λ n. Some (given n g.seen)) same)
found (g ∷ gs) (suc i) c is = found gs i c is

-- a ticket that a pass gave is one that a later pass gave whose tickets have the same cells
pub still_gave : (p q : Trace) (t u : Ticket) (seen : Bool) → GaveTicket p t seen → u.number ≡ t.number → u.reply ≡ t.reply
    → cells q.tickets ≡ cells p.tickets → (now : Bool) × GaveTicket q u now
still_gave p q t u seen gave number reply same =
    let cell : GivenTicket → ℕ = λ g. g.cell in
    let before : slice_get (cells p.tickets) t.number ≡ Some (cell_of_load t.reply) =
    slice_get-map cell p.tickets t.number ∙ ap (option_map cell) gave in
    let after : slice_get (cells q.tickets) u.number ≡ Some (cell_of_load u.reply) = rw (same, number, reply) before in
    found q.tickets u.number (cell_of_load u.reply) (sym (slice_get-map cell q.tickets u.number) ∙ after)

-- a ticket that was read is still one that the pass gave
pub gave_again : (p : Trace) (t : Ticket) (e : Ending) (q : Trace) (u : Ticket) → WasRead p t e q → u.number ≡ t.number → u.reply ≡ t.reply
    → (now : Bool) × GaveTicket q u now
gave_again p t e q u (seen, gave, is) number reply =
    still_gave p q t u seen gave number reply (read_cells p t e q (seen, gave, is))
