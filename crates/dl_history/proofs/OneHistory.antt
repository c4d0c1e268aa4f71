-- Accounts of all callers that have their calls leave no choice of the history.
use Rattle.std.proofs.Common.{◌≡◌, ◌∙◌, sym, ap, subst, ℕ, zero, suc, ◌+◌, Bool, true, false, cond, List, [], ◌∷◌, map, Option, Some, None, slice_get, nat_eq}
use Rattle.std.proofs.Common.{refl, arith}
use Rattle.std.proofs.lemmas.Bool.{eq-eqb, eqb-true}
use Rattle.std.proofs.lemmas.List.Sums.{sum_by-cons}
use Rattle.dl_history.specs.Agreement.{Account, accounts_by, HasCalls, HasEach}
use Rattle.dl_history.specs.Entries.{PlacedEvent, calls_of}
use Rattle.dl_history.specs.History.{IsLegal}
use Rattle.dl_history.specs.Lists.{Among, Every, one_if, places}
use Rattle.dl_desk.specs.Service.{Service}
use Rattle.dl_desk.specs.declared.event.Event.{Event}
use Rattle.dl_history.proofs.Pasts.{legal_place}

-- lists with the same at each place are the same
same_lists : {X : Type 0} (xs ys : List X) → ((i : ℕ) → slice_get xs i ≡ slice_get ys i) → xs ≡ ys
same_lists [] [] same = refl
same_lists {X} [] (y ∷ ys) same = absurd (let bad : ◌≡◌ {A = Option X} None (Some y) = same 0 in cc)
same_lists {X} (x ∷ xs) [] same = absurd (let bad : ◌≡◌ {A = Option X} (Some x) None = same 0 in cc)
same_lists {X} (x ∷ xs) (y ∷ ys) same =
    let first : ◌≡◌ {A = Option X} (Some x) (Some y) = same 0 in
    let rest = same_lists xs ys (λ i. same (suc i)) in
    cc

-- the place of an element that is n's is among n's places
pub place_among : {X : Type 0} (who : X → ℕ) (n k i j : ℕ) (xs : List X) (x : X) → slice_get xs i ≡ Some x → who x ≡ n → j ≡ k + i → Among j (places who n k xs)
place_among {X} who n k i j [] x there own at = absurd (let bad : ◌≡◌ {A = Option X} None (Some x) = there in cc)
place_among {X} who n k zero j (y ∷ xs) x there own at =
    let two : ◌≡◌ {A = Option X} (Some y) (Some x) = there in
    let same : y ≡ x = cc in
    let here : j ≡ k = omega arith in
    rw (eq-eqb (who y) n (ap who same ∙ own), here) (0, refl)
place_among who n k (suc i) j (y ∷ xs) x there own at = by (nat_eq (who y) n) (place_among who n (k + 1) i j xs x there own (omega arith))
  where
    by : (b : Bool) → Among j (places who n (k + 1) xs) → Among j (cond b (k ∷ places who n (k + 1) xs) (places who n (k + 1) xs))
    by true rest = (suc rest.0, rest.1)
    by false rest = rest

-- where the call at a place tells the event of both histories there, they have the same
same_told : (g h : List Event) (calls : List PlacedEvent) (i j : ℕ) → slice_get (map (λ t. t.at) calls) j ≡ Some i
    → Every (λ t. slice_get g t.at ≡ Some t.event) calls → Every (λ t. slice_get h t.at ≡ Some t.event) calls → slice_get g i ≡ slice_get h i
same_told g h [] i j there in_g in_h = absurd (let bad : ◌≡◌ {A = Option ℕ} None (Some i) = there in cc)
same_told g h (t ∷ calls) i zero there in_g in_h =
    let two : ◌≡◌ {A = Option ℕ} (Some t.at) (Some i) = there in
    let same : t.at ≡ i = cc in
    rw (← same) (in_g.0 ∙ sym in_h.0)
same_told g h (t ∷ calls) i (suc j) there in_g in_h = same_told g h calls i j there in_g.1 in_h.1

-- an account of a caller, which has its calls of both histories
record IsCallers (g h : List Event) (n : ℕ) : Type 0 where
  own : Account
  is : own.caller ≡ n
  in_g : HasCalls g own
  in_h : HasCalls h own

callers_own : (g h : List Event) (n : ℕ) (accounts : List Account) → accounts_by n accounts ≡ 1 → Every (HasCalls g) accounts
    → Every (HasCalls h) accounts → IsCallers g h n
callers_own g h n [] one in_g in_h = absurd (omega arith)
callers_own g h n (a ∷ accounts) one in_g in_h =
    by (nat_eq n a.caller) refl (sum_by-cons (λ (b : Account). one_if (nat_eq n b.caller)) a accounts)
    (λ rest. callers_own g h n accounts rest in_g.1 in_h.1)
  where
    by : (b : Bool) → nat_eq n a.caller ≡ b → accounts_by n (a ∷ accounts) ≡ one_if (nat_eq n a.caller) + accounts_by n accounts
        → (accounts_by n accounts ≡ 1 → IsCallers g h n) → IsCallers g h n
    by true same all others = record { own = a; is = sym (eqb-true n a.caller same); in_g = in_g.0; in_h = in_h.0 }
    by false other all others = let none : one_if (nat_eq n a.caller) ≡ 0 = rw other refl in others (omega arith)

-- an event of one history stands at the same place of the other
same_event : (s : Service) (g h : List Event) (accounts : List Account) (i : ℕ) (e : Event) → IsLegal s g → HasEach s.callers accounts
    → Every (HasCalls g) accounts → Every (HasCalls h) accounts → slice_get g i ≡ Some e → slice_get g i ≡ slice_get h i
same_event s g h accounts i e legal each in_g in_h there =
    let next = legal_place s g i e legal there in
    let own = callers_own g h e.caller accounts (each e.caller next.caller) in_g in_h in
    let among = place_among (λ (x : Event). x.caller) own.own.caller 0 i i g e there (sym own.is) (omega arith) in
    let listed = subst (λ (ps : List ℕ). Among i ps) (sym own.in_g.places_are) among in
    same_told g h (calls_of own.own.entries) i listed.0 listed.1 own.in_g.tell own.in_h.tell

-- Two legal histories of which the accounts of all callers have the calls are one.
pub one_history : (s : Service) (g h : List Event) (accounts : List Account) → IsLegal s g → IsLegal s h → HasEach s.callers accounts
    → Every (HasCalls g) accounts → Every (HasCalls h) accounts → g ≡ h
one_history s g h accounts legal_g legal_h each in_g in_h = same_lists g h (λ i. at i (slice_get g i) refl (slice_get h i) refl)
  where
    at : (i : ℕ) (x : Option Event) → slice_get g i ≡ x → (y : Option Event) → slice_get h i ≡ y → slice_get g i ≡ slice_get h i
    at i (Some e) there y is = same_event s g h accounts i e legal_g each in_g in_h there
    at i None none (Some e) there = sym (same_event s h g accounts i e legal_h each in_h in_g there)
    at i None none None nothing = none ∙ sym nothing
