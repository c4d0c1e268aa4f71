-- Answers by the tables alone, from the headline.
use Rattle.std.proofs.Common.{◌≡◌, ◌∙◌, ap, sym, subst, refl, ℕ, ◌<◌, Bool, true, false, cond, List, [], ◌∷◌, ◌++◌, length}
use Rattle.std.proofs.Common.{Option, Some, None, slice_get, arith}
use Rattle.dl_values.specs.Answering.{by_function}
use Rattle.dl_values.specs.Key.{Key, key_eq}
use Rattle.dl_values.specs.declared.outcome.Outcome.{Outcome}
use Rattle.dl_values.proofs.KeyLemmas.{key_eq-same}
use Rattle.dl_history.specs.Agreement.{account, Agrees, entries_of}
use Rattle.dl_history.specs.Lists.{Every}
use Rattle.dl_desk.specs.Service.{Service}
use Rattle.dl_desk.specs.declared.event.Call.{Call}
use Rattle.dl_desk.specs.declared.event.Call.TheVariants.{Settle, Fail}
use Rattle.dl_desk.specs.declared.event.Event.{Event}
use Rattle.dl_history.proofs.HistoryLemmas.{entries_agree}
use Rattle.dl_history.proofs.ListLemmas.{every_at, every_from}
use Rattle.dl_source.specs.Answer.{answer_of}
use Rattle.dl_terms.specs.TermAnswers.{Pairs, outcome_in, gives}
use Rattle.dl_terms.specs.Laws.{GivesOnce, GivesForEver}
use Rattle.dl_terms.specs.Rounds.{Gains}
use Rattle.dl_haxl.specs.PlanEntries.{stretch}
use Rattle.dl_scope.specs.Setup.{service_of}
use Rattle.dl_scope.specs.Headline.{Headline, Ends}
use Rattle.dl_scope.specs.OwnAnswers.{IsNoPrime, NonePrimed, AreOwn, listed, PrimesNoKey}
use Rattle.dl_scope.specs.OwnAnswers.{AnswersByTables, AnswersAreOwn, OwnAnswersAreOne}
use Rattle.dl_scope.specs.Report.{Report}
use Rattle.dl_terms.specs.declared.plan.Plan.{Plan}
use Rattle.dl_terms.specs.declared.plan.Step.{Step}
use Rattle.dl_terms.specs.declared.plan.Step.TheVariants.{Prime, Eval}
use Rattle.dl_scope.proofs.CallersCalls.{OfStep, event_holds, some_at, some_low}
use Rattle.dl_scope.proofs.OwnOutcomes.{own_outcome, tables_own}
use Rattle.dl_scope.proofs.OwnReads.{OwnReads, steps_own}

-- ---- histories where no plan primes a key

end_unprimed : (b : ℕ) (c : Call) → Ends b c → IsNoPrime c
end_unprimed b (Settle n os) end = tt
end_unprimed b (Fail n fault) end = tt
end_unprimed b c end = absurd end

unprimed : (n : ℕ) (steps : List Step) → Every PrimesNoKey steps → Every (OfStep (λ m c. IsNoPrime c) n) steps
unprimed n [] none = tt
unprimed n (Prime key outcome ∷ steps) (one, none) = absurd one
unprimed n (step ∷ steps) (one, none) = (tt, unprimed n steps none)

module _ (s : Service) (plans : List Plan) (r : Report) (h : Headline s plans r)
    (none : Every (λ (plan : Plan). Every PrimesNoKey plan.steps.items) plans) where
  pub none_primed : NonePrimed r.history.events
  none_primed =
      every_from (λ (e : Event). IsNoPrime e.call) r.history.events
      (event_holds (λ n c. IsNoPrime c) [] s plans r h (λ n low. record { load = λ ks. tt; dispatch = tt; unsent = λ b. tt })
      (λ n plan at. unprimed n plan.steps.items (every_at (λ (p : Plan). Every PrimesNoKey p.steps.items) plans n plan at none))
      (λ n high b c ends. end_unprimed b c ends))

-- ---- the laws

pub answers_are_own : AnswersAreOwn
answers_are_own tables setup plans r h unfailed unprimed n plan answers at given =
    let s : Service = service_of setup (length plans) (by_function (answer_of tables)) in
    let low : n < length plans = some_low plans n plan at in
    let rounds = some_at r.rounds n (omega (arith, h.rounds_each, low)) in
    let follows = h.follow n plan answers rounds.0 at given rounds.1 in
    let own = tables_own s tables (λ keys a may. may) in
    let reads : OwnReads (listed tables) r.history.events =
    own_outcome s (listed tables) own r.history.events h.legal (none_primed s plans r h unprimed) unfailed in
    let agrees : Agrees r.history.events (account n (entries_of n r.history.accounts)) =
    entries_agree r.history.events n r.history.accounts (h.each n (omega (arith, low))) h.agree in
    every_from (AnswersByTables tables plan) answers (λ i a got.
    let found = steps_own (listed tables) r.history.events reads n 0 plan.steps.items (stretch (entries_of n r.history.accounts) answers rounds.0 follows.0)
    agrees.tells follows.1 a (i, got) in
    let place : found.0 ≡ a.step = omega (arith, found.2) in
    (found.1, subst (λ k. slice_get plan.steps.items k ≡ Some (Eval found.1)) place found.3, found.4))

-- ---- one answer

found_own : (own : Key → Outcome) (ps : Pairs) (k : Key) (o : Outcome) → AreOwn own ps → outcome_in ps k ≡ Some o → o ≡ own k
found_own own [] k o each found = absurd (let bad : ◌≡◌ {A = Option Outcome} None (Some o) = found in cc)
found_own own (p ∷ ps) k o (one, others) found = by (key_eq k p.0) refl found (found_own own ps k o others)
  where
    by : (t : Bool) → key_eq k p.0 ≡ t → cond t (Some p.1) (outcome_in ps k) ≡ Some o → (outcome_in ps k ≡ Some o → o ≡ own k) → o ≡ own k
    by true is got rest =
        let same : k ≡ p.0 = key_eq-same k p.0 is in
        let here : p.1 ≡ o = cc in
        sym here ∙ (one ∙ ap own (sym same))
    by false is got rest = rest got

-- one list of pairs before another
front_gains : (ps qs : Pairs) → Gains ps (ps ++ qs)
front_gains [] qs k o found = absurd (let bad : ◌≡◌ {A = Option Outcome} None (Some o) = found in cc)
front_gains (p ∷ ps) qs k o found = by (key_eq k p.0) found (front_gains ps qs k o)
  where
    by : (t : Bool) → cond t (Some p.1) (outcome_in ps k) ≡ Some o → (outcome_in ps k ≡ Some o → outcome_in (ps ++ qs) k ≡ Some o)
        → cond t (Some p.1) (outcome_in (ps ++ qs) k) ≡ Some o
    by true got rest = got
    by false got rest = rest got

back_gains : (own : Key → Outcome) (ps qs : Pairs) → AreOwn own ps → AreOwn own qs → Gains qs (ps ++ qs)
back_gains own [] qs each each2 k o found = found
back_gains own (p ∷ ps) qs (one, others) each2 k o found =
    by (key_eq k p.0) refl (found_own own qs k o each2 found) (back_gains own ps qs others each2 k o found)
  where
    by : (t : Bool) → key_eq k p.0 ≡ t → o ≡ own k → outcome_in (ps ++ qs) k ≡ Some o → cond t (Some p.1) (outcome_in (ps ++ qs) k) ≡ Some o
    by true is own_is rest =
        let same : k ≡ p.0 = key_eq-same k p.0 is in
        let here : p.1 ≡ o = one ∙ (ap own (sym same) ∙ sym own_is) in
        ap Some here
    by false is own_is rest = rest

pub own_answers_are_one : GivesOnce → GivesForEver → OwnAnswersAreOne
own_answers_are_one once ever tables t a b (ps, own, gives) (qs, own2, gives2) =
    once t (ps ++ qs) a b (ever t ps (ps ++ qs) a (front_gains ps qs) gives) (ever t qs (ps ++ qs) b (back_gains (listed tables) ps qs own own2) gives2)
