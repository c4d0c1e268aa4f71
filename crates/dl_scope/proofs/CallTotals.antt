-- What is added up over the calls of all accounts is what is added up over the events.
use Rattle.std.proofs.Common.{◌≡◌, ◌∙◌, sym, ap, subst, refl, ℕ, ◌+◌, Bool, true, false, cond, List, [], ◌∷◌, ◌++◌, length, map, flat_map, Option, Some}
use Rattle.std.proofs.Common.{slice_get, nat_eq, arith, append_assoc, length-append}
use Rattle.std.proofs.lemmas.Bool.{eqb-true}
use Rattle.std.proofs.lemmas.List.Sums.{sum_by-cons}
use Rattle.dl_history.specs.Agreement.{Account, accounts_by, HasEach, Tells, Agrees}
use Rattle.dl_history.specs.Entries.{PlacedEvent, Entry, Called, Saw, calls_of}
use Rattle.dl_history.specs.History.{IsLegal}
use Rattle.dl_history.specs.Lists.{Every, total, one_if, places}
use Rattle.dl_desk.specs.Service.{Service}
use Rattle.dl_desk.specs.declared.event.Event.{Event}
use Rattle.dl_history.proofs.ListLemmas.{get-append_at, every_from}
use Rattle.dl_history.proofs.Pasts.{legal_place}

-- ---- lists

-- lists one after another are as long as all of them
pub long_each : {X Y : Type 0} (f : X → List Y) (xs : List X) → length (flat_map f xs) ≡ total (λ x. length (f x)) xs
long_each f [] = refl
long_each f (x ∷ xs) = let one = length-append (f x) (flat_map f xs) in let rest = long_each f xs in omega (arith, one, rest)

pub total-map : {X Y : Type 0} (g : Y → ℕ) (f : X → Y) (xs : List X) → total g (map f xs) ≡ total (λ x. g (f x)) xs
total-map g f [] = refl
total-map g f (x ∷ xs) = let rest = total-map g f xs in omega (arith, rest)

-- ---- totals

-- f of one caller's events, added up
abbrev pub total_by : (Event → ℕ) → ℕ → List Event → ℕ
total_by f n events = total (λ e. cond (nat_eq e.caller n) (f e) 0) events

-- f of the events of calls, added up
abbrev pub total_told : (Event → ℕ) → List PlacedEvent → ℕ
total_told f ts = total (λ t. f t.event) ts

-- ---- the calls of one caller

abbrev AreTold : List Event → List PlacedEvent → Type 0
AreTold events ts = Every (λ t. slice_get events t.at ≡ Some t.event) ts

-- the calls are at these places
abbrev at_places : List PlacedEvent → List ℕ
at_places ts = map (λ t. t.at) ts

-- where calls are those of the events after one, they are those of the events from it on, with or without it
told_next : (f : Event → ℕ) (n : ℕ) (before events : List Event) (e : Event) (all : List Event) (k : ℕ) (b : Bool) (later : List ℕ) (rest : ℕ)
    → slice_get all k ≡ Some e → ((us : List PlacedEvent) → at_places us ≡ later → AreTold all us → total_told f us ≡ rest)
    → (ts : List PlacedEvent) → at_places ts ≡ cond b (k ∷ later) later → AreTold all ts → total_told f ts ≡ cond b (f e) 0 + rest
told_next f n before events e all k true later rest here others [] are tell = absurd (let bad : ◌≡◌ {A = List ℕ} [] (k ∷ later) = are in cc)
told_next f n before events e all k true later rest here others (t ∷ ts) are tell =
    let both : t.at ∷ at_places ts ≡ k ∷ later = are in
    let place : t.at ≡ k = cc in
    let after : at_places ts ≡ later = cc in
    let two : ◌≡◌ {A = Option Event} (Some t.event) (Some e) = sym tell.0 ∙ (ap (slice_get all) place ∙ here) in
    let same : t.event ≡ e = cc in
    let first = ap f same in
    let more = others ts after tell.1 in
    omega (arith, first, more)
told_next f n before events e all k false later rest here others ts are tell = let more = others ts are tell in omega (arith, more)

-- calls of the events behind others, in their order, that are a caller's
told_total : (f : Event → ℕ) (n : ℕ) (before events : List Event) (ts : List PlacedEvent)
    → at_places ts ≡ places (λ e. e.caller) n (length before) events → AreTold (before ++ events) ts → total_told f ts ≡ total_by f n events
told_total f n before [] [] are tell = refl
told_total f n before [] (t ∷ ts) are tell = absurd (let bad : t.at ∷ at_places ts ≡ [] = are in cc)
told_total f n before (e ∷ events) ts are tell =
    let k = length before in
    let all = before ++ e ∷ events in
    let next : k + 1 ≡ length (before ++ e ∷ []) = sym (length-append before (e ∷ [])) in
    let whole : (before ++ e ∷ []) ++ events ≡ all = append_assoc before (e ∷ []) events in
    told_next f n before events e all k (nat_eq e.caller n) (places (λ (x : Event). x.caller) n (k + 1) events) (total_by f n events)
    (get-append_at before e events)
    (λ us are2 tell2. told_total f n (before ++ e ∷ []) events us
    (are2 ∙ ap (λ i. places (λ (x : Event). x.caller) n i events) next) (subst (λ es. AreTold es us) (sym whole) tell2))
    ts are tell

calls_told : (events : List Event) (lines : List Entry) → Every (Tells events) lines → AreTold events (calls_of lines)
calls_told events [] tell = tt
calls_told events (Called t ∷ lines) tell = (tell.0, calls_told events lines tell.1)
calls_told events (Saw r ∷ lines) tell = calls_told events lines tell.1

-- over the calls of an account it is what it is over its caller's events
pub account_total : (f : Event → ℕ) (events : List Event) (a : Account) → Agrees events a
    → total_told f (calls_of a.entries) ≡ total_by f a.caller events
account_total f events a agrees =
    told_total f a.caller [] events (calls_of a.entries) agrees.places_are (calls_told events a.entries agrees.tells)

-- ---- the calls of all

module _ (w : ℕ → Event → ℕ) where
  -- one event is counted for each account of its caller
  abbrev once : Event → List Account → ℕ
  once e accounts = total (λ a. cond (nat_eq e.caller a.caller) (w a.caller e) 0) accounts

  by_none : (e : Event) (accounts : List Account) → accounts_by e.caller accounts ≡ 0 → once e accounts ≡ 0
  by_none e [] none = refl
  by_none e (a ∷ accounts) none =
      let all = sum_by-cons (λ (b : Account). one_if (nat_eq e.caller b.caller)) a accounts in
      by (nat_eq e.caller a.caller) (sym all ∙ none) (by_none e accounts)
    where
      by : (b : Bool) → one_if b + accounts_by e.caller accounts ≡ 0 → (accounts_by e.caller accounts ≡ 0 → once e accounts ≡ 0)
          → cond b (w a.caller e) 0 + once e accounts ≡ 0
      by true zero rest = absurd (omega (arith, zero))
      by false zero rest = let later = rest (omega (arith, zero)) in omega (arith, later)

  by_one : (e : Event) (accounts : List Account) → accounts_by e.caller accounts ≡ 1 → once e accounts ≡ w e.caller e
  by_one e [] one = absurd (let bad : 0 ≡ 1 = one in omega (arith, bad))
  by_one e (a ∷ accounts) one =
      let all = sum_by-cons (λ (b : Account). one_if (nat_eq e.caller b.caller)) a accounts in
      by (nat_eq e.caller a.caller) refl (sym all ∙ one) (by_one e accounts) (by_none e accounts)
    where
      by : (b : Bool) → nat_eq e.caller a.caller ≡ b → one_if b + accounts_by e.caller accounts ≡ 1
          → (accounts_by e.caller accounts ≡ 1 → once e accounts ≡ w e.caller e) → (accounts_by e.caller accounts ≡ 0 → once e accounts ≡ 0)
          → cond b (w a.caller e) 0 + once e accounts ≡ w e.caller e
      by true own count rest none =
          let same = ap (λ c. w c e) (eqb-true e.caller a.caller own) in
          let later = none (omega (arith, count)) in
          omega (arith, same, later)
      by false own count rest none = let later = rest (omega (arith, count)) in omega (arith, later)

  all_none : (accounts : List Account) → total (λ a. 0) accounts ≡ 0
  all_none [] = refl
  all_none (a ∷ accounts) = let rest = all_none accounts in omega (arith, rest)

  one_more : (e : Event) (events : List Event) (accounts : List Account)
      → total (λ a. total_by (w a.caller) a.caller (e ∷ events)) accounts ≡ once e accounts + total (λ a. total_by (w a.caller) a.caller events) accounts
  one_more e events [] = refl
  one_more e events (a ∷ accounts) = let rest = one_more e events accounts in omega (arith, rest)

  all_by : (events : List Event) (accounts : List Account) → Every (λ e. accounts_by e.caller accounts ≡ 1) events
      → total (λ a. total_by (w a.caller) a.caller events) accounts ≡ total (λ e. w e.caller e) events
  all_by [] accounts each = all_none accounts
  all_by (e ∷ events) accounts each =
      let more = one_more e events accounts in
      let first = by_one e accounts each.0 in
      let rest = all_by events accounts each.1 in
      omega (arith, more, first, rest)

  told_by : (events : List Event) (accounts : List Account) → Every (Agrees events) accounts
      → total (λ a. total_told (w a.caller) (calls_of a.entries)) accounts ≡ total (λ a. total_by (w a.caller) a.caller events) accounts
  told_by events [] agree = refl
  told_by events (a ∷ accounts) agree =
      let first = account_total (w a.caller) events a agree.0 in
      let rest = told_by events accounts agree.1 in
      omega (arith, first, rest)

  -- Where each caller has an account and each agrees with the events, what is added up over the calls of all accounts, by their
  -- callers, is what it is over the events.
  pub calls_total : (s : Service) (events : List Event) (accounts : List Account) → IsLegal s events → HasEach s.callers accounts
      → Every (Agrees events) accounts → total (λ a. total_told (w a.caller) (calls_of a.entries)) accounts ≡ total (λ e. w e.caller e) events
  calls_total s events accounts legal each agree =
      let once_each = every_from (λ (e : Event). accounts_by e.caller accounts ≡ 1) events
      (λ k e got. each e.caller (legal_place s events k e legal got).caller) in
      told_by events accounts agree ∙ all_by events accounts once_each
