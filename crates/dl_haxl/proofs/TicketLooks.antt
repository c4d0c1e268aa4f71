-- Tickets that are looked at, one after another.
use Rattle.std.proofs.Common.{◌≡◌, ◌∙◌, ap, sym, subst, refl, ℕ, zero, suc, ◌+◌, ◌<◌, Bool, true}
use Rattle.std.proofs.Common.{false, ◌&&◌, List, [], ◌∷◌, take, length, set, get_or, Option, Some, None, arith}
use Rattle.std.specs.Prelude.{IfNone, IfSome, is_some, not}
use Rattle.std.specs.Borrow.{Bor}
use Rattle.std.proofs.lemmas.Bool.{and_parts, and_from}
use Rattle.std.proofs.lemmas.List.{take_more_set, set-get_or}
use Rattle.dl_terms.proofs.Options.{some_same}
use Rattle.std.proofs.lemmas.List.Folds.{list_all-append}
use Rattle.dl_values.specs.declared.outcome.Outcome.{Outcome}
use Rattle.dl_desk.specs.declared.event.Ending.{Ending}
use Rattle.dl_loader.specs.Pass.{Ticket, Shows, ticket}
use Rattle.dl_haxl.specs.Pairs.{Later, AllLater, all_show, outcomes_shown, with_shown}

-- ---- the same tickets, later

known_self : (known : Option Ending) → IfSome known (λ e. known ≡ Some e)
known_self None = tt
known_self (Some e) = refl

known-trans : (a b c : Option Ending) → IfSome a (λ e. b ≡ Some e) → IfSome b (λ e. c ≡ Some e) → IfSome a (λ e. c ≡ Some e)
known-trans None b c first next = tt
known-trans (Some e) b c first next = subst (λ o. IfSome o (λ x. c ≡ Some x)) first next

pub later_self : (ts : List Ticket) → AllLater ts ts
later_self [] = tt
later_self (t ∷ ts) = (record { number = refl; reply = refl; known = known_self t.known }, later_self ts)

pub later_next : (t u v : Ticket) → Later t u → Later u v → Later t v
later_next t u v first next = record {
  number = next.number ∙ first.number;
  reply = next.reply ∙ first.reply;
  known = known-trans t.known u.known v.known first.known next.known;
}

pub later_set : (ts us : List Ticket) (i : ℕ) (d v : Ticket) → AllLater ts us → i < length us → Later (get_or us i d) v → AllLater ts (set us i v)
later_set [] [] i d v all lt next = all
later_set [] (x ∷ us) i d v all lt next = absurd all
later_set (t ∷ ts) [] i d v all lt next = absurd all
later_set (t ∷ ts) (x ∷ us) zero d v all lt next = (later_next t x v all.0 next, all.1)
later_set (t ∷ ts) (x ∷ us) (suc i) d v all lt next = let below : i < length us = omega arith in (all.0, later_set ts us i d v all.1 below next)

pub later_long : (ts us : List Ticket) → AllLater ts us → length us ≡ length ts
later_long [] [] all = refl
later_long [] (u ∷ us) all = absurd all
later_long (t ∷ ts) [] all = absurd all
later_long (t ∷ ts) (u ∷ us) all = ap suc (later_long ts us all.1)

-- ---- whether all show an outcome

and_false : (b : Bool) → b && false ≡ false
and_false true = refl
and_false false = refl

pub set_unshown : (us : List Ticket) (i : ℕ) (v : Ticket) → i < length us → v.known ≡ None → all_show (set us i v) ≡ false
set_unshown [] i v lt none = absurd (omega arith)
set_unshown (u ∷ us) zero v lt none = ap (λ (o : Option Ending). is_some o && all_show us) none
set_unshown (u ∷ us) (suc i) v lt none =
    let below : i < length us = omega arith in
    ap (λ b. is_some u.known && b) (set_unshown us i v below none) ∙ and_false (is_some u.known)

pub shown_more : (us : List Ticket) (i : ℕ) (v : Ticket) → i < length us → all_show (take i us) ≡ true → is_some v.known ≡ true
    → all_show (take (i + 1) (set us i v)) ≡ true
shown_more us i v lt all some =
    let shows : Ticket → Bool = λ t. is_some t.known in
    ap all_show (take_more_set us i v lt) ∙ (list_all-append shows (take i us) (v ∷ [])
    ∙ and_from (all_show (take i us)) (is_some v.known && true) all (ap (λ b. b && true) some))

-- ---- the outcomes that they show

shows : (known : Option Ending) → is_some known ≡ true → (e : Ending) × (known ≡ Some e)
shows None some = absurd (let bad : ◌≡◌ {A = Bool} false true = some in cc)
shows (Some e) some = (e, refl)

pub shown_at : (ts : List Ticket) (i : ℕ) (d : Ticket) → all_show ts ≡ true → i < length ts → (e : Ending) × ((get_or ts i d).known ≡ Some e)
shown_at [] i d all lt = absurd (omega arith)
shown_at (x ∷ ts) zero d all lt = shows x.known (and_parts (is_some x.known) (all_show ts) all).0
shown_at (x ∷ ts) (suc i) d all lt =
    let below : i < length ts = omega arith in
    shown_at ts i d (and_parts (is_some x.known) (all_show ts) all).1 below

shown_length : (known : Option Ending) (os : List Outcome) → is_some known ≡ true → length (with_shown known os) ≡ suc (length os)
shown_length None os some = absurd (let bad : ◌≡◌ {A = Bool} false true = some in cc)
shown_length (Some e) os some = refl

pub shown_long : (ts : List Ticket) → all_show ts ≡ true → length (outcomes_shown ts) ≡ length ts
shown_long [] all = refl
shown_long (t ∷ ts) all =
    let parts = and_parts (is_some t.known) (all_show ts) all in
    shown_length t.known (outcomes_shown ts) parts.0 ∙ ap suc (shown_long ts parts.1)

-- ---- what a look answers

pub look_none : {A : Type 0} (r : Option A) (test : Bool) (a b : Type 0) → is_some r ≡ not test → test ≡ true → IfNone r (a × b) → b
look_none None test a b is holds both = both.1
look_none (Some x) test a b is holds both = absurd (let bad : ◌≡◌ {A = Bool} true false = is ∙ ap not holds in cc)

pub look_some : (r : Option (Bor Outcome)) (test : Bool) (t : Ticket) → is_some r ≡ not test → test ≡ false → IfSome r (λ outcome. Shows t outcome.now)
    → is_some t.known ≡ true
look_some None test t is fails shown = absurd (let bad : ◌≡◌ {A = Bool} false true = is ∙ ap not fails in cc)
look_some (Some x) test t is fails (ending, known, outcome) = ap is_some known

-- a look at a ticket that shows its outcome changes nothing
pub same_look : (ts : List Ticket) (i : ℕ) (d v : Ticket) → all_show ts ≡ true → i < length ts → Later (get_or ts i d) v → set ts i v ≡ ts
same_look ts i d v all lt next =
    let t : Ticket = get_or ts i d in
    let at = shown_at ts i d all lt in
    let known : v.known ≡ t.known = subst (λ o. IfSome o (λ e. v.known ≡ Some e)) at.1 next.known ∙ sym at.1 in
    let same : v ≡ t = ap (λ n. ticket n v.reply v.known) next.number ∙ (ap (λ r. ticket t.number r v.known) next.reply ∙ ap (ticket t.number t.reply) known) in
    ap (set ts i) same ∙ set-get_or ts i d

-- what it answers is the outcome in its place
pub look_shows : (ts : List Ticket) (i : ℕ) (d v : Ticket) (outcome : Outcome) → all_show ts ≡ true → i < length ts → Later (get_or ts i d) v → Shows v outcome
    → (e : Ending) × ((get_or ts i d).known ≡ Some e) × (outcome ≡ e.outcome)
look_shows ts i d v outcome all lt next (ending, known, is) =
    let at = shown_at ts i d all lt in
    let same : at.0 ≡ ending = some_same at.0 ending (sym (subst (λ o. IfSome o (λ e. v.known ≡ Some e)) at.1 next.known) ∙ known) in
    (at.0, at.1, sym is ∙ ap (λ (e : Ending). e.outcome) (sym same))
