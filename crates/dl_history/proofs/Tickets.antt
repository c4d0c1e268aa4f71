-- Tickets, one after another.
use Rattle.std.proofs.Common.{◌≡◌, ◌∙◌, ap, ℕ, zero, suc, ◌+◌, ◌<◌, List, [], ◌∷◌, ◌++◌, length, take, get_or, refl, arith}
use Rattle.std.proofs.lemmas.List.{take_more}
use Rattle.dl_desk.specs.declared.reply.LoadReply.{LoadReply}
use Rattle.dl_history.specs.Entries.{cell_of_load, cells_of}
use Rattle.dl_history.specs.Lists.{Every, Among}
use Rattle.dl_history.specs.Pass.{Trace, with_ticket, with_tickets}

-- one ticket more
pub with_tickets-snoc : (p : Trace) (rs : List LoadReply) (r : LoadReply) → with_tickets p (rs ++ r ∷ []) ≡ with_ticket (with_tickets p rs) (cell_of_load r)
with_tickets-snoc p [] r = refl
with_tickets-snoc p (x ∷ rs) r = with_tickets-snoc (with_ticket p (cell_of_load x)) rs r

-- tickets are no entries
pub tickets_entries : (p : Trace) (rs : List LoadReply) → (with_tickets p rs).entries ≡ p.entries
tickets_entries p [] = refl
tickets_entries p (r ∷ rs) = tickets_entries (with_ticket p (cell_of_load r)) rs

-- a ticket for the load at a place, after those before it
pub ticket_next : (p now then : Trace) (rs : List LoadReply) (i c : ℕ) (d : LoadReply) → i < length rs → now ≡ with_tickets p (take i rs)
    → c ≡ cell_of_load (get_or rs i d) → then ≡ with_ticket now c → then ≡ with_tickets p (take (i + 1) rs)
ticket_next p now then rs i c d low before cell is = rw (is, before, cell, take_more rs i d low, with_tickets-snoc p (take i rs) (get_or rs i d)) refl

every_read : {X : Type 0} (P : X → Type 0) (xs : List X) (i : ℕ) (d : X) → i < length xs → Every P xs → P (get_or xs i d)
every_read P [] i d low each = absurd (omega arith)
every_read P (x ∷ xs) zero d low each = each.0
every_read P (x ∷ xs) (suc i) d low each = every_read P xs i d (omega arith) each.1

-- its cell is among those that were answered
pub ticket_among : (p now : Trace) (rs : List LoadReply) (i : ℕ) (d : LoadReply) → i < length rs → now ≡ with_tickets p (take i rs)
    → Every (λ r. Among (cell_of_load r) (cells_of p.entries)) rs → Among (cell_of_load (get_or rs i d)) (cells_of now.entries)
ticket_among p now rs i d low before each =
    let same : now.entries ≡ p.entries = ap (λ (q : Trace). q.entries) before ∙ tickets_entries p (take i rs) in
    rw same (every_read (λ r. Among (cell_of_load r) (cells_of p.entries)) rs i d low each)
