-- Tickets that are handed out for loads.
use Rattle.std.proofs.Common.{◌≡◌, ◌∙◌, sym, ap, subst, ℕ, zero, suc, ◌+◌, ◌-◌, ◌<◌, ◌⊎◌, inl, inr, false, List, [], ◌∷◌, ◌++◌, length, map, take, Some}
use Rattle.std.proofs.Common.{option_map, slice_get, get_or, refl, arith, length-append}
use Rattle.std.proofs.lemmas.List.{map-append, length-map, append_assoc, take_more}
use Rattle.std.proofs.lemmas.Option.{slice_get-map}
use Rattle.dl_values.specs.Key.{Key}
use Rattle.dl_desk.specs.declared.reply.LoadReply.{LoadReply}
use Rattle.dl_history.specs.declared.pass.GivenTicket.{GivenTicket}
use Rattle.dl_desk.specs.declared.event.Call.{Call}
use Rattle.dl_desk.specs.declared.event.Reply.{Reply}
use Rattle.dl_desk.specs.declared.event.Call.TheVariants.{LoadMany}
use Rattle.dl_desk.specs.declared.event.Reply.TheVariants.{Many}
use Rattle.dl_loader.specs.Book.{Book}
use Rattle.dl_loader.specs.EventEffect.{event_of, loads_of, Makes}
use Rattle.dl_history.specs.Entries.{cell_of_load}
use Rattle.dl_history.specs.Pass.{Trace, Ticket, given, with_call, with_ticket, with_tickets, GaveTicket, AreTickets, GaveTickets}
use Rattle.dl_history.proofs.ListLemmas.{get-snoc}

-- ---- tickets in order

-- one ticket more, for the load at a place
pub tickets_more : (first i : ℕ) (rs : List LoadReply) (d r : LoadReply) (ts us : List Ticket) (t : Ticket) → i < length rs → get_or rs i d ≡ r
    → AreTickets first (take i rs) ts → us ≡ ts ++ t ∷ [] → t.number ≡ first + length ts → t.reply ≡ r → AreTickets first (take (i + 1) rs) us
tickets_more first i rs d r ts us t low is before more number reply = record {
  replies_are =
      let front : map (λ (x : Ticket). x.reply) ts ++ t.reply ∷ [] ≡ take i rs ++ r ∷ [] = rw (before.replies_are, reply) refl in
      let longer : take (i + 1) rs ≡ take i rs ++ r ∷ [] = take_more rs i d low ∙ ap (λ (x : LoadReply). take i rs ++ x ∷ []) is in
      ap (map (λ (x : Ticket). x.reply)) more ∙ (map-append (λ (x : Ticket). x.reply) ts (t ∷ []) ∙ (front ∙ sym longer));
  numbered = λ k x got. by k x (get-snoc ts t x k (rw more at got));
}
  where
    by : (k : ℕ) (x : Ticket) → ((k < length ts) × (slice_get ts k ≡ Some x)) ⊎ ((k ≡ length ts) × (x ≡ t)) → x.number ≡ first + k
    by k x (inl old) = before.numbered k x old.1
    by k x (inr new) = ap (λ (y : Ticket). y.number) new.1 ∙ (number ∙ ap (λ (n : ℕ). first + n) (sym new.0))

-- ---- tickets that a pass gave

-- what a load's ticket is in its pass
abbrev pub new_ticket : LoadReply → GivenTicket
new_ticket r = given (cell_of_load r) false

-- the tickets of a pass with those of loads
pub tickets_are : (p : Trace) (rs : List LoadReply) → (with_tickets p rs).tickets ≡ p.tickets ++ map new_ticket rs
tickets_are p [] = by p.tickets
  where
    by : (gs : List GivenTicket) → gs ≡ gs ++ []
    by [] = refl
    by (g ∷ gs) = ap (λ (xs : List GivenTicket). g ∷ xs) (by gs)
tickets_are p (r ∷ rs) = tickets_are (with_ticket p (cell_of_load r)) rs ∙ append_assoc p.tickets (new_ticket r ∷ []) (map new_ticket rs)

get_later : {X : Type 0} (xs ys : List X) (i n : ℕ) → n ≡ length xs + i → slice_get (xs ++ ys) n ≡ slice_get ys i
get_later [] ys i n at = let same : n ≡ i = omega arith in rw same refl
get_later (x ∷ xs) ys i zero at = absurd (omega arith)
get_later (x ∷ xs) ys i (suc n) at = get_later xs ys i n (omega arith)

-- the pass gave the tickets of its last loads
pub gave_all : (p : Trace) (rs : List LoadReply) (ts : List Ticket) → AreTickets (length p.tickets) rs ts
    → GaveTickets (with_tickets p rs) (length p.tickets) ts
gave_all p rs ts are = record { numbered = are.numbered; gave = gave }
  where
    gave : (i : ℕ) (t : Ticket) → slice_get ts i ≡ Some t → GaveTicket (with_tickets p rs) t false
    gave i t got =
        let reply : slice_get rs i ≡ Some t.reply =
        ap (λ (xs : List LoadReply). slice_get xs i) (sym are.replies_are)
        ∙ (slice_get-map (λ (x : Ticket). x.reply) ts i ∙ ap (option_map (λ (x : Ticket). x.reply)) got) in
        let told : slice_get (map new_ticket rs) i ≡ Some (new_ticket t.reply) = slice_get-map new_ticket rs i ∙ ap (option_map new_ticket) reply in
        let last : slice_get (with_tickets p rs).tickets (length p.tickets + i) ≡ Some (new_ticket t.reply) =
        ap (λ (gs : List GivenTicket). slice_get gs (length p.tickets + i)) (tickets_are p rs)
        ∙ (get_later p.tickets (map new_ticket rs) i (length p.tickets + i) refl ∙ told) in
        rw (are.numbered i t got) last

-- ---- as an event gave them

-- a loadMany gives a ticket for each of its loads
pub tickets_last : (b now : Book) (p new : Trace) (ks : List Key) (rs : List LoadReply) → Makes b p (LoadMany ks) (Many rs) now new
    → length new.tickets ≡ length p.tickets + length rs
tickets_last b now p new ks rs made =
    let called : Trace = with_call p (length b.history) (event_of p (LoadMany ks) (Many rs)) in
    let all : new.tickets ≡ p.tickets ++ map new_ticket rs = ap (λ (q : Trace). q.tickets) made.trace ∙ tickets_are called rs in
    let long : length new.tickets ≡ length p.tickets + length (map new_ticket rs) = ap length all ∙ length-append p.tickets (map new_ticket rs) in
    let many : length (map new_ticket rs) ≡ length rs = length-map rs new_ticket in
    omega arith

-- the pass gave the tickets of the loadMany that was its last event
pub gave_loads : (b now : Book) (p new : Trace) (ks : List Key) (rs : List LoadReply) (ts : List Ticket) → Makes b p (LoadMany ks) (Many rs) now new
    → AreTickets (length new.tickets - length rs) rs ts → GaveTickets new (length p.tickets) ts
gave_loads b now p new ks rs ts made are =
    let long = tickets_last b now p new ks rs made in
    let first : length new.tickets - length rs ≡ length p.tickets = omega arith in
    let called : Trace = with_call p (length b.history) (event_of p (LoadMany ks) (Many rs)) in
    subst (λ (q : Trace). GaveTickets q (length p.tickets) ts) (sym made.trace) (gave_all called rs ts (subst (λ (n : ℕ). AreTickets n rs ts) first are))

-- a call gives the tickets of the loads that it answers, and no others
pub tickets_by_loads : {b now : Book} {p new : Trace} {c : Call} {r : Reply} → Makes b p c r now new → new.tickets ≡ (with_tickets p (loads_of r)).tickets
tickets_by_loads {b} {now} {p} {new} {c} {r} made =
    ap (λ (q : Trace). q.tickets) made.trace
    ∙ (tickets_are (with_call p (length b.history) (event_of p c r)) (loads_of r) ∙ sym (tickets_are p (loads_of r)))
