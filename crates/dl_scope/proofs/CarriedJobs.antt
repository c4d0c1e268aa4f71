-- The queue of a report carried one job for each batch.
use Rattle.std.proofs.Common.{◌≡◌, ◌∙◌, ap, sym, refl, ℕ, zero, suc, ◌<◌, ◌≤◌, Bool, true, false, cond, List, [], ◌∷◌, ◌++◌, length, nat_le, arith}
use Rattle.std.proofs.Common.{Option, Some, None, slice_get}
use Rattle.std.proofs.lemmas.Bool.Decides.{nat_tests}
use Rattle.dl_values.specs.declared.outcome.BatchFault.{BatchFault}
use Rattle.dl_values.specs.declared.outcome.BatchFault.TheVariants.{Memory, Unsent, Source}
use Rattle.dl_history.specs.Lists.{Every, total}
use Rattle.dl_desk.specs.declared.event.Call.{Call}
use Rattle.dl_desk.specs.declared.event.Call.TheVariants.{Settle, Fail}
use Rattle.dl_desk.specs.declared.event.Event.{Event}
use Rattle.dl_history.proofs.ListLemmas.{every_from}
use Rattle.dl_terms.specs.declared.plan.Step.{Step}
use Rattle.dl_terms.specs.declared.plan.Step.TheVariants.{Eval}
use Rattle.dl_workers.specs.GiveUps.{given_up, given_up_by}
use Rattle.dl_loader.specs.Dispatches.{unsent, unsent_by}
use Rattle.dl_scope.specs.CarriedJobs.{EachIsCarried, JobsAreBatches}
use Rattle.dl_scope.specs.Headline.{Ends, calls_after}
use Rattle.dl_scope.proofs.CallersCalls.{OfRounds, OfStep, event_holds, some_low}
use Rattle.dl_scope.proofs.EndCounts.{ends_begun, ends_one}
use Rattle.dl_scope.proofs.SentCounts.{jobs_begun}
use Rattle.dl_scope.proofs.TallyOfEvents.{ones_count}

pub jobs_are_batches : JobsAreBatches
jobs_are_batches service batches plans r h = jobs_begun service r.history.events h.legal h.ended

-- ---- histories with no batch that was given up

parts_none : {X : Type 0} (xs ys : List X) → xs ++ ys ≡ [] → (xs ≡ []) × (ys ≡ [])
parts_none [] ys is = (refl, is)
parts_none {X} (x ∷ xs) ys is = absurd (let bad : ◌≡◌ {A = List X} (x ∷ (xs ++ ys)) [] = is in cc)

fail_none : (b : ℕ) (fault : BatchFault) → given_up_by (Fail b fault) ≡ [] → unsent_by (Fail b fault) ≡ []
fail_none b Memory none = refl
fail_none b Unsent none = none
fail_none b (Source text) none = refl

call_none : (c : Call) → given_up_by c ≡ [] → unsent_by c ≡ []
call_none (Fail b fault) none = fail_none b fault none
call_none c none = refl

none_unsent : (es : List Event) → given_up es ≡ [] → unsent es ≡ []
none_unsent [] none = refl
none_unsent (e ∷ es) none =
    let traces = parts_none (given_up_by e.call) (given_up es) none in
    ap (λ bs. bs ++ unsent es) (call_none e.call traces.0) ∙ none_unsent es traces.1

none_at : (es : List Event) (i : ℕ) (e : Event) → slice_get es i ≡ Some e → unsent es ≡ [] → unsent_by e.call ≡ []
none_at [] i e at none = absurd (let bad : ◌≡◌ {A = Option Event} None (Some e) = at in cc)
none_at (x ∷ es) zero e at none =
    let same : x ≡ e = cc in
    ap (λ (y : Event). unsent_by y.call) (sym same) ∙ (parts_none (unsent_by x.call) (unsent es) none).0
none_at (x ∷ es) (suc i) e at none = none_at es i e at (parts_none (unsent_by x.call) (unsent es) none).1

-- ---- who ends batches

-- where its batch doesn't fail as unsent, a call of a worker ends one, and that of a plan none
abbrev ByWorkers : ℕ → ℕ → Call → Type 0
ByWorkers plans n c = unsent_by c ≡ [] → ends_one c ≡ cond (nat_le plans n) 1 0

of_plan : (plans n : ℕ) → n < plans → ◌≡◌ {A = ℕ} 0 (cond (nat_le plans n) 1 0)
of_plan plans n low = let past : nat_le plans n ≡ false = grind (arith, nat_tests) in ap (λ (t : Bool). cond t 1 0) (sym past)

of_worker : (plans n : ℕ) → plans ≤ n → ◌≡◌ {A = ℕ} 1 (cond (nat_le plans n) 1 0)
of_worker plans n high = let yes : nat_le plans n ≡ true = grind (arith, nat_tests) in ap (λ (t : Bool). cond t 1 0) (sym yes)

by_rounds : (plans n : ℕ) → n < plans → OfRounds (ByWorkers plans) n
by_rounds plans n low = record {
  load = λ ks none. of_plan plans n low;
  dispatch = λ none. of_plan plans n low;
  unsent = λ b none. absurd (let bad : ◌≡◌ {A = List ℕ} (b ∷ []) [] = none in cc);
}

by_steps : (plans n : ℕ) → n < plans → (steps : List Step) → Every (OfStep (ByWorkers plans) n) steps
by_steps plans n low [] = tt
by_steps plans n low (Eval term ∷ steps) = (tt, by_steps plans n low steps)
by_steps plans n low (step ∷ steps) = (λ none. of_plan plans n low, by_steps plans n low steps)

by_ends : (plans n : ℕ) → plans ≤ n → (b : ℕ) (c : Call) → Ends b c → ByWorkers plans n c
by_ends plans n high b (Settle m os) ends none = of_worker plans n high
by_ends plans n high b (Fail m fault) ends none = of_worker plans n high
by_ends plans n high b c ends none = absurd ends

total_each : (f g : Event → ℕ) (es : List Event) → Every (λ e. f e ≡ g e) es → total f es ≡ total g es
total_each f g [] each = refl
total_each f g (e ∷ es) (one, each) = let rest = total_each f g es each in omega (arith, one, rest)

-- ---- the law

pub each_is_carried : EachIsCarried
each_is_carried service plans r h =
    let events = r.history.events in
    let none = none_unsent events h.fetched in
    let no_back = ap length none in
    let jobs = jobs_begun service events h.legal h.ended in
    let each = every_from (λ (e : Event). cond (nat_le (length plans) e.caller) 1 0 ≡ ends_one e.call) events
    (λ i e at. sym (event_holds (ByWorkers (length plans)) [] service plans r h (by_rounds (length plans))
    (λ n plan got. by_steps (length plans) n (some_low plans n plan got) plan.steps.items) (by_ends (length plans)) i e at (none_at events i e at none))) in
    let ends : calls_after (length plans) events ≡ total (λ e. ends_one e.call) events =
    sym (ones_count (λ (e : Event). nat_le (length plans) e.caller) events)
    ∙ total_each (λ (e : Event). cond (nat_le (length plans) e.caller) 1 0) (λ (e : Event). ends_one e.call) events each in
    let batches = ends_begun service events h.legal h.ended in
    let sent = h.sent in
    let taken = h.taken in
    let sum = h.counted in
    record {
      sent = omega (arith, sent, no_back, jobs);
      taken = omega (arith, taken, ends, batches);
      none_left = omega (arith, sent, no_back, jobs, taken, ends, batches, sum);
    }
