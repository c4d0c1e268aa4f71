-- The laws of closed histories: their events are the calls of their callers.
use Rattle.std.proofs.Common.{◌≡◌, ◌∙◌, sym, ap, subst, ℕ, zero, suc, Bool, true, false, List, [], ◌∷◌, map, cond, Option, Some, None, slice_get, nat_eq}
use Rattle.std.proofs.Common.{refl, arith}
use Rattle.dl_desk.specs.declared.event.Event.{Event}
use Rattle.dl_history.specs.Laws.{EventsAreCalls, HistoriesBeginEmpty}
use Rattle.dl_history.specs.Agreement.{Account, Tells, entries_of}
use Rattle.dl_history.specs.Entries.{Entry, Called, Saw, PlacedEvent, event_at, calls_of}
use Rattle.dl_history.specs.Lists.{Among, Every}
use Rattle.dl_history.proofs.HistoryLemmas.{caller_agrees}
use Rattle.dl_history.proofs.OneHistory.{place_among}
use Rattle.dl_history.proofs.Pasts.{legal_place}

-- an element of a list of which a function was taken
mapped_from : {X : Type 0} (f : X → ℕ) (xs : List X) (i n : ℕ) → slice_get (map f xs) i ≡ Some n → (x : X) × (slice_get xs i ≡ Some x) × (f x ≡ n)
mapped_from f [] i n got = absurd (let bad : ◌≡◌ {A = Option ℕ} None (Some n) = got in cc)
mapped_from f (x ∷ xs) zero n got = let two : ◌≡◌ {A = Option ℕ} (Some (f x)) (Some n) = got in (x, refl, let same : f x ≡ n = cc in same)
mapped_from f (x ∷ xs) (suc i) n got = mapped_from f xs i n got

-- a call among entries that tell what the history has tells the event at its place
call_tells : (events : List Event) (entries : List Entry) (i : ℕ) (t : PlacedEvent) → Every (Tells events) entries → slice_get (calls_of entries) i ≡ Some t
    → slice_get events t.at ≡ Some t.event
call_tells events [] i t tells got = absurd (let bad : ◌≡◌ {A = Option PlacedEvent} None (Some t) = got in cc)
call_tells events (Called u ∷ entries) zero t tells got =
    let two : ◌≡◌ {A = Option PlacedEvent} (Some u) (Some t) = got in
    let same : u ≡ t = cc in
    subst (λ (x : PlacedEvent). slice_get events x.at ≡ Some x.event) same tells.0
call_tells events (Called u ∷ entries) (suc i) t tells got = call_tells events entries i t tells.1 got
call_tells events (Saw r ∷ entries) i t tells got = call_tells events entries i t tells.1 got

pub events_are_calls : EventsAreCalls
events_are_calls s h closed k e there =
    let next = legal_place s h.events k e closed.legal there in
    let count = closed.count in
    let below = next.caller in
    let entries : List Entry = entries_of e.caller h.accounts in
    let agrees = caller_agrees s e.caller h closed (omega arith) in
    let among = place_among (λ (x : Event). x.caller) e.caller 0 k k h.events e there refl (omega arith) in
    let listed = subst (λ (ps : List ℕ). Among k ps) (sym agrees.places_are) among in
    let call = mapped_from (λ (t : PlacedEvent). t.at) (calls_of entries) listed.0 k listed.1 in
    let tells = call_tells h.events entries listed.0 call.0 agrees.tells call.1 in
    let two : ◌≡◌ {A = Option Event} (Some call.0.event) (Some e) = sym tells ∙ (ap (slice_get h.events) call.2 ∙ there) in
    let same : call.0.event ≡ e = cc in
    (listed.0, call.1 ∙ ap Some (told_is call.0 k e call.2 same))
  where
    told_is : (t : PlacedEvent) (k : ℕ) (e : Event) → t.at ≡ k → t.event ≡ e → t ≡ event_at k e
    told_is t k e at is = rw (← at, ← is) refl

no_calls : (n : ℕ) (accounts : List Account) → Every (λ a. calls_of a.entries ≡ []) accounts → calls_of (entries_of n accounts) ≡ []
no_calls n [] none = refl
no_calls n (a ∷ accounts) none = by (nat_eq n a.caller) (no_calls n accounts none.1)
  where
    by : (t : Bool) → calls_of (entries_of n accounts) ≡ [] → calls_of (cond t a.entries (entries_of n accounts)) ≡ []
    by true rest = none.0
    by false rest = rest

pub histories_begin_empty : HistoriesBeginEmpty
histories_begin_empty s h closed none = by h.events (λ k e there. events_are_calls s h closed k e there)
  where
    by : (es : List Event) → ((k : ℕ) (e : Event) → slice_get es k ≡ Some e → Among (event_at k e) (calls_of (entries_of e.caller h.accounts))) → es ≡ []
    by [] each = refl
    by (e ∷ es) each =
        let call = each 0 e refl in
        absurd (let bad : ◌≡◌ {A = Option PlacedEvent} None (Some (event_at 0 e)) = rw (no_calls e.caller h.accounts none) at call.1 in cc)
