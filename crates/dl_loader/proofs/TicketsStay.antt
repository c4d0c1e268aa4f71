-- The tickets that a pass had given stand as they stood, whatever was given and read since.
use Rattle.std.proofs.Common.{◌≡◌, ◌∙◌, ap, subst, sym, ℕ, zero, suc, ◌<◌, false, List, [], ◌∷◌, ◌++◌, length}
use Rattle.std.proofs.Common.{Option, Some, None, slice_get, arith}
use Rattle.dl_desk.specs.declared.reply.LoadReply.{LoadReply}
use Rattle.dl_desk.specs.declared.event.Call.{Call}
use Rattle.dl_desk.specs.declared.event.Reply.{Reply}
use Rattle.dl_history.specs.Entries.{cell_of_load}
use Rattle.dl_desk.specs.Service.{Service}
use Rattle.dl_history.specs.Additions.{KeepsTickets}
use Rattle.dl_loader.specs.EventEffect.{WasMade, event_of, loads_of}
use Rattle.dl_history.specs.declared.pass.GivenTicket.{GivenTicket}
use Rattle.dl_history.specs.Pass.{Trace, given, with_call, with_ticket, with_tickets}

-- ---- one after another

pub keeps_self : (p : Trace) → KeepsTickets p p
keeps_self p = λ number g is. is

pub keeps_after : (p q r : Trace) → KeepsTickets p q → KeepsTickets q r → KeepsTickets p r
keeps_after p q r first next = λ number g is. next number g (first number g is)

-- while the tickets stay
pub keeps_same : (old new : Trace) → new.tickets ≡ old.tickets → KeepsTickets old new
keeps_same old new same = λ number g is. ap (λ (gs : List GivenTicket). slice_get gs number) same ∙ is

-- ---- tickets that are given

there_still : (gs hs : List GivenTicket) (n : ℕ) (g : GivenTicket) → slice_get gs n ≡ Some g → slice_get (gs ++ hs) n ≡ Some g
there_still [] hs n g is = absurd (let bad : ◌≡◌ {A = Option GivenTicket} None (Some g) = is in cc)
there_still (x ∷ gs) hs zero g is = is
there_still (x ∷ gs) hs (suc n) g is = there_still gs hs n g is

pub keeps_ticket : (p : Trace) (cell : ℕ) → KeepsTickets p (with_ticket p cell)
keeps_ticket p cell = λ number g is. there_still p.tickets (given cell false ∷ []) number g is

pub keeps_tickets : (p : Trace) (rs : List LoadReply) → KeepsTickets p (with_tickets p rs)
keeps_tickets p [] = keeps_self p
keeps_tickets p (r ∷ rs) =
    let one : Trace = with_ticket p (cell_of_load r) in
    keeps_after p one (with_tickets one rs) (keeps_ticket p (cell_of_load r)) (keeps_tickets one rs)

-- by a call that was made
pub keeps_made : (s : Service) (old new : Trace) (call : Call) (reply : Reply) → WasMade s old call reply new → KeepsTickets old new
keeps_made s old new call reply (before, now, kept, keeps, after, made) =
    let called : Trace = with_call old (length before.history) (event_of old call reply) in
    subst (KeepsTickets old) (sym made.trace) (keeps_tickets called (loads_of reply))

-- ---- outcomes that are read

-- a ticket that is there has a number below their length
pub number_low : (gs : List GivenTicket) (n : ℕ) (g : GivenTicket) → slice_get gs n ≡ Some g → n < length gs
number_low [] n g is = absurd (let bad : ◌≡◌ {A = Option GivenTicket} None (Some g) = is in cc)
number_low (x ∷ gs) zero g is = omega arith
number_low (x ∷ gs) (suc n) g is = let low = number_low gs n g is in omega (arith, low)
