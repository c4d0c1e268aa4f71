-- What a history answers for one caller.
use Rattle.std.proofs.Common.{◌≡◌, ◌∙◌, sym, ap, subst, ℕ, suc, ◌+◌, ◌<◌, ◌≤◌, ◌⊎◌, inl, inr, Bool, true, false, cond, List, [], ◌∷◌, length, map, flat_map}
use Rattle.std.proofs.Common.{Some}
use Rattle.std.proofs.Common.{slice_get, nat_eq, refl, arith}
use Rattle.std.proofs.lemmas.Bool.{cases_lt, eqb-true, ne_eqb}
use Rattle.std.proofs.lemmas.List.Sums.{sum_by-cons}
use Rattle.dl_history.specs.Agreement.{Account, account, accounts_by, Agrees, Tells, entries_of, places_of}
use Rattle.dl_history.specs.ClosedHistory.{History, IsHistory, Outline, outline_of, entry_at, accounts_at, kinds_of, place_of}
use Rattle.dl_history.specs.Entries.{Entry, Called, Saw, kind_of}
use Rattle.dl_history.specs.History.{IsLegal}
use Rattle.dl_history.specs.declared.entry.EntryKind.{EntryKind}
use Rattle.dl_history.specs.declared.entry.EntryKind.TheVariants as kind
use Rattle.dl_history.specs.Lists.{Every, places, one_if}
use Rattle.dl_desk.specs.Service.{Service}
use Rattle.dl_desk.specs.declared.event.Event.{Event}
use Rattle.dl_history.proofs.Pasts.{legal_place}

-- ---- the entries of a caller

-- a caller that has one account has its entries, which agree
pub entries_agree : (es : List Event) (n : ℕ) (accounts : List Account) → accounts_by n accounts ≡ 1 → Every (Agrees es) accounts
    → Agrees es (account n (entries_of n accounts))
entries_agree es n [] one agree = absurd (let none : accounts_by n [] ≡ 0 = refl in omega arith)
entries_agree es n (a ∷ accounts) one agree =
    by (nat_eq n a.caller) refl (entries_agree es n accounts) (sum_by-cons (λ (b : Account). one_if (nat_eq n b.caller)) a accounts)
  where
    own : n ≡ a.caller → Agrees es (account n a.entries)
    own same = subst (λ (m : ℕ). Agrees es (account m a.entries)) (sym same) agree.0

    by : (t : Bool) → nat_eq n a.caller ≡ t → (accounts_by n accounts ≡ 1 → Every (Agrees es) accounts → Agrees es (account n (entries_of n accounts)))
        → accounts_by n (a ∷ accounts) ≡ one_if t + accounts_by n accounts → Agrees es (account n (cond t a.entries (entries_of n accounts)))
    by true is rest more = own (eqb-true n a.caller is)
    by false is rest more = rest (omega arith) agree.1

-- one that has none has no entries
pub entries_none : (n m : ℕ) (accounts : List Account) → Every (λ a. a.caller < m) accounts → m ≤ n → entries_of n accounts ≡ []
entries_none n m [] low high = refl
entries_none n m (a ∷ accounts) low high =
    let below = low.0 in
    let other : nat_eq n a.caller ≡ false = ne_eqb n a.caller (λ same. absurd (omega arith)) in
    rw other (entries_none n m accounts low.1 high)

-- ---- the places of a caller's events

places_by : (n m k : ℕ) (es : List Event) → Every (λ (e : Event). e.caller < m) es → m ≤ n → places (λ (e : Event). e.caller) n k es ≡ []
places_by n m k [] low high = refl
places_by n m k (e ∷ es) low high =
    let below = low.0 in
    let other : nat_eq e.caller n ≡ false = ne_eqb e.caller n (λ same. absurd (omega arith)) in
    rw other (places_by n m (k + 1) es low.1 high)

callers_low : (s : Service) (es : List Event) → ((k : ℕ) (e : Event) → slice_get es k ≡ Some e → e.caller < s.callers)
    → Every (λ (e : Event). e.caller < s.callers) es
callers_low s [] each = tt
callers_low s (e ∷ es) each = (each 0 e refl, callers_low s es (λ k x got. each (suc k) x got))

-- what is no caller has no events
pub places_none : (s : Service) (es : List Event) (n : ℕ) → IsLegal s es → s.callers ≤ n → places (λ (e : Event). e.caller) n 0 es ≡ []
places_none s es n legal high = places_by n s.callers 0 es (callers_low s es (λ k e got. let next = legal_place s es k e legal got in next.caller)) high

-- ---- accounts as the events tell them

kinds_same : (es : List Event) (ks : List EntryKind) → map kind_of (map (entry_at es) ks) ≡ ks
kinds_same es [] = refl
kinds_same es (kind.Call at ∷ ks) = ap (λ (rest : List EntryKind). kind.Call at ∷ rest) (kinds_same es ks)
kinds_same es (kind.Saw cell at ∷ ks) = ap (λ (rest : List EntryKind). kind.Saw cell at ∷ rest) (kinds_same es ks)

-- the entries of a caller are what was kept of them
pub kinds_told : (es : List Event) (n : ℕ) (os : List Outline) → kinds_of n os ≡ map kind_of (entries_of n (accounts_at es os))
kinds_told es n [] = refl
kinds_told es n (o ∷ os) = by (nat_eq n o.caller) (kinds_told es n os)
  where
    by : (t : Bool) → kinds_of n os ≡ map kind_of (entries_of n (accounts_at es os))
        → cond t o.kinds (kinds_of n os) ≡ map kind_of (cond t (map (entry_at es) o.kinds) (entries_of n (accounts_at es os)))
    by true rest = sym (kinds_same es o.kinds)
    by false rest = rest

-- an entry that tells what the history has is told so by its kind
entry_told : (es : List Event) (entry : Entry) → Tells es entry → entry_at es (kind_of entry) ≡ entry
entry_told es (Called t) tells = rw tells refl
entry_told es (Saw r) tells = rw tells refl

entries_told : (es : List Event) (entries : List Entry) → Every (Tells es) entries → map (entry_at es) (map kind_of entries) ≡ entries
entries_told es [] tells = refl
entries_told es (entry ∷ entries) tells = rw (entry_told es entry tells.0, entries_told es entries tells.1) refl

-- accounts that agree with the events are told by what is kept of them
pub accounts_told : (es : List Event) (accounts : List Account) → Every (Agrees es) accounts → accounts_at es (map outline_of accounts) ≡ accounts
accounts_told es [] agree = refl
accounts_told es (a ∷ accounts) agree =
    let own = agree.0 in
    rw (entries_told es a.entries own.tells, accounts_told es accounts agree.1) refl

-- the places of the calls, by what is kept of the entries
pub places_kept : (entries : List Entry) → flat_map place_of (map kind_of entries) ≡ places_of entries
places_kept [] = refl
places_kept (Called t ∷ entries) = ap (λ (rest : List ℕ). t.at ∷ rest) (places_kept entries)
places_kept (Saw r ∷ entries) = places_kept entries

-- ---- as a history has them

-- the entries of a caller agree with the events
pub caller_agrees : (service : Service) (n : ℕ) (h : History) → IsHistory service h → n < length h.accounts
    → Agrees h.events (account n (entries_of n h.accounts))
caller_agrees service n h is low =
    let count = is.count in
    entries_agree h.events n h.accounts (is.each n (omega arith)) is.agree

-- what is no caller has none
pub caller_none : (service : Service) (n : ℕ) (h : History) → IsHistory service h → length h.accounts ≤ n → entries_of n h.accounts ≡ []
caller_none service n h is high =
    let count = is.count in
    entries_none n service.callers h.accounts is.callers (omega arith)

-- so the places of the calls among the entries are those of the caller's events
pub caller_places : (service : Service) (n : ℕ) (h : History) → IsHistory service h
    → flat_map place_of (map kind_of (entries_of n h.accounts)) ≡ places (λ (e : Event). e.caller) n 0 h.events
caller_places service n h is = places_kept (entries_of n h.accounts) ∙ by (cases_lt n (length h.accounts))
  where
    by : (n < length h.accounts) ⊎ (length h.accounts ≤ n) → places_of (entries_of n h.accounts) ≡ places (λ (e : Event). e.caller) n 0 h.events
    by (inl low) = let agrees = caller_agrees service n h is low in agrees.places_are
    by (inr high) =
        let count = is.count in
        ap places_of (caller_none service n h is high) ∙ sym (places_none service h.events n is.legal (omega arith))
