-- What a call that was made, or an outcome that was read, adds to a pass: all that a crate above needs of both.
use Rattle.std.proofs.Common.{◌≡◌, ◌∙◌, sym, ap, refl, ℕ, Bool, false, List, [], ◌∷◌, ◌++◌, length, Option, Some, append_assoc}
use Rattle.dl_desk.specs.declared.reply.LoadReply.{LoadReply}
use Rattle.dl_desk.specs.declared.event.Call.{Call}
use Rattle.dl_desk.specs.declared.event.Reply.{Reply}
use Rattle.dl_history.specs.Entries.{Entry, cell_of_load}
use Rattle.dl_desk.specs.Service.{Service}
use Rattle.dl_history.specs.Additions.{call_entry, Grows}
use Rattle.dl_loader.specs.EventEffect.{WasMade, event_of, loads_of}
use Rattle.dl_history.specs.declared.pass.GivenTicket.{GivenTicket}
use Rattle.dl_history.specs.Pass.{Trace, Ticket, GaveTicket, given, with_call, with_ticket, with_tickets}
use Rattle.dl_history.proofs.Tickets.{tickets_entries}

-- ---- the caller

-- tickets are no callers
pub tickets_caller : (p : Trace) (rs : List LoadReply) → (with_tickets p rs).caller ≡ p.caller
tickets_caller p [] = refl
tickets_caller p (r ∷ rs) = tickets_caller (with_ticket p (cell_of_load r)) rs

-- ---- calls

-- a call that was made is one entry more
pub made_adds : (s : Service) (old new : Trace) (call : Call) (reply : Reply) → WasMade s old call reply new
    → (at : ℕ) × (new.caller ≡ old.caller) × (new.entries ≡ old.entries ++ call_entry old.caller at call reply ∷ [])
made_adds s old new call reply (before, now, kept, keeps, after, made) =
    let called : Trace = with_call old (length before.history) (event_of old call reply) in
    let caller = ap (λ (p : Trace). p.caller) made.trace ∙ tickets_caller called (loads_of reply) in
    let entries = ap (λ (p : Trace). p.entries) made.trace ∙ tickets_entries called (loads_of reply) in
    (length before.history, caller, entries)

-- ---- reads

-- a ticket whose outcome the pass has not read was given so, and no other way
pub seen_once : (p : Trace) (t : Ticket) (seen : Bool) → GaveTicket p t false → GaveTicket p t seen → seen ≡ false
seen_once p t seen unseen gave =
    let same : given (cell_of_load t.reply) seen ≡ given (cell_of_load t.reply) false =
    (let two : ◌≡◌ {A = Option GivenTicket} (Some (given (cell_of_load t.reply) seen)) (Some (given (cell_of_load t.reply) false)) = sym gave ∙ unseen in cc) in
    ap (λ (g : GivenTicket). g.seen) same

-- a ticket that was given stays given while the tickets stay
pub gave_still : (old new : Trace) (t : Ticket) (seen : Bool) → new.tickets ≡ old.tickets → GaveTicket old t seen → GaveTicket new t seen
gave_still old new t seen same gave = rw same gave

-- ---- one after another

-- one that adds, and adds again
pub grows_after : (p q r : Trace) → Grows p q → Grows q r → Grows p r
grows_after p q r (caller, lines, added) (caller2, more, added2) =
    (caller2 ∙ caller, lines ++ more, added2 ∙ (ap (λ (ls : List Entry). ls ++ more) added ∙ append_assoc p.entries lines more))
