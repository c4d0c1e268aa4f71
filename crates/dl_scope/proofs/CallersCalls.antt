-- What holds of each call that plans and workers make holds of each event of a report.
use Rattle.std.proofs.Common.{◌≡◌, ◌∙◌, ap, sym, subst, refl, ℕ, zero, suc, ◌+◌, ◌<◌, ◌≤◌, true, false, cond, Bool, List, [], ◌∷◌, length}
use Rattle.std.proofs.Common.{Option, Some, None, slice_get, nat_eq, arith, inl, inr}
use Rattle.std.proofs.lemmas.Bool.{cases_lt}
use Rattle.std.proofs.lemmas.Bool.Decides.{nat_tests}
use Rattle.dl_values.specs.Key.{Key}
use Rattle.dl_values.specs.declared.job.Job.{Job}
use Rattle.dl_values.specs.declared.outcome.BatchFault.TheVariants.{Unsent}
use Rattle.dl_history.specs.Agreement.{account, Agrees, Tells, entries_of, places_of}
use Rattle.dl_history.specs.Entries.{Entry, Called, Saw, PlacedEvent}
use Rattle.dl_history.specs.Lists.{Every, Among, places}
use Rattle.dl_desk.specs.Service.{Service}
use Rattle.dl_desk.specs.declared.event.Call.{Call}
use Rattle.dl_desk.specs.declared.event.Call.TheVariants.{LoadMany, Dispatch, Fail}
use Rattle.dl_desk.specs.declared.event.Call.TheVariants as call
use Rattle.dl_desk.specs.declared.event.Ending.{Ending}
use Rattle.dl_desk.specs.declared.event.Event.{Event}
use Rattle.dl_history.proofs.HistoryLemmas.{entries_agree}
use Rattle.dl_history.proofs.ListLemmas.{every_append, every_among}
use Rattle.dl_history.proofs.Pasts.{legal_place}
use Rattle.dl_loader.specs.Additions.{saws}
use Rattle.dl_desk.specs.declared.reply.LoadReply.{LoadReply}
use Rattle.dl_terms.specs.TermAnswers.{Pairs}
use Rattle.dl_terms.specs.Tree.{Tree}
use Rattle.dl_terms.specs.View.{term_view}
use Rattle.dl_terms.specs.declared.plan.Plan.{Plan}
use Rattle.dl_terms.specs.declared.plan.Step.{Step}
use Rattle.dl_terms.specs.declared.plan.Step.TheVariants.{Prime, Clear, ClearAll, Eval}
use Rattle.dl_haxl.specs.Rounds.{HandedOver, Rounds}
use Rattle.dl_haxl.specs.PlanEntries.{Stretch, stretch, IsStep, AreSteps}
use Rattle.dl_scope.specs.Headline.{HeadlineBut, Ends, TellsEnd}
use Rattle.dl_scope.specs.Report.{Report}

-- ---- the calls of a caller

module _ (P : ℕ → Call → Type 0) where
  -- the entry is of an outcome that was read, or of a call of which the fact holds
  abbrev pub OfCall : ℕ → Entry → Type 0
  OfCall n (Called t) = P n t.event.call
  OfCall n (Saw r) = Unit {0}

  -- the fact holds of the calls of rounds
  pub record OfRounds (n : ℕ) : Type 0 where
    pub load : (ks : List Key) → P n (LoadMany ks)
    pub dispatch : P n Dispatch
    pub unsent : (b : ℕ) → P n (Fail b Unsent)

  -- it holds of the step's call, if the step is one
  abbrev pub OfStep : ℕ → Step → Type 0
  OfStep n (Prime key outcome) = P n (call.Prime key outcome)
  OfStep n (Clear key) = P n (call.Clear key)
  OfStep n ClearAll = P n call.ClearAll
  OfStep n (Eval term) = Unit {0}

  saws_hold : (n : ℕ) (rs : List LoadReply) (es : List Ending) → Every (OfCall n) (saws rs es)
  saws_hold n [] es = tt
  saws_hold n (r ∷ rs) [] = tt
  saws_hold n (r ∷ rs) (e ∷ es) = (tt, saws_hold n rs es)

  module _ (n : ℕ) (holds : OfRounds n) where
    handed_hold : (jobs sent : List Job) (ends : List Entry) → HandedOver n jobs sent ends → Every (OfCall n) ends
    handed_hold [] sent ends (unsent, none) = subst (Every (OfCall n)) (sym none) tt
    handed_hold (job ∷ jobs) sent ends (inl (rest, is, over)) = handed_hold jobs rest ends over
    handed_hold (job ∷ jobs) sent ends (inr (at, rest, is, over)) =
        subst (Every (OfCall n)) (sym is) (holds.unsent job.batch, handed_hold jobs sent rest over)

    rounds_hold : (t : Tree) (count : ℕ) (lines : List Entry) (known : Pairs) (sent : List Job) → Rounds (HandedOver n) n t count lines known sent
        → Every (OfCall n) lines
    rounds_hold t zero lines known sent (none, empty, unsent) = subst (Every (OfCall n)) (sym none) tt
    rounds_hold t (suc count) lines known sent (before, last, past, earlier, later, split, parted, rounds, round) =
        let one = round.round in
        let ends = handed_hold one.jobs later one.ends one.jobs_end in
        let rest = every_append (OfCall n) one.ends (saws one.replies one.endings) ends (saws_hold n one.replies one.endings) in
        let here : Every (OfCall n) last = subst (Every (OfCall n)) (sym one.tells) (holds.load _, (holds.dispatch, rest)) in
        subst (Every (OfCall n)) (sym split) (every_append (OfCall n) before last (rounds_hold t count before past earlier rounds) here)

    step_holds : (number : ℕ) (step : Step) (s : Stretch) → OfStep n step → IsStep n number step s → Every (OfCall n) s.lines
    step_holds number (Eval term) s none (a, answers, (known, rounds, ended, gives)) =
        rounds_hold (term_view term) s.rounds s.lines known s.sent rounds
    step_holds number step s one (at, reply, is) = subst (λ (x : Stretch). Every (OfCall n) x.lines) (sym is) (one, tt)

    steps_hold : (number : ℕ) (steps : List Step) (s : Stretch) → Every (OfStep n) steps → AreSteps n number steps s → Every (OfCall n) s.lines
    steps_hold number [] s none is = subst (λ (x : Stretch). Every (OfCall n) x.lines) (sym is) tt
    steps_hold number (step ∷ steps) s (first, others) (own, rest, is, one, more) =
        subst (λ (x : Stretch). Every (OfCall n) x.lines) (sym is)
        (every_append (OfCall n) own.lines rest.lines (step_holds number step own first one) (steps_hold (suc number) steps rest others more))

  ends_hold : (n : ℕ) → ((b : ℕ) (c : Call) → Ends b c → P n c) → (ls : List Entry) → Every TellsEnd ls → Every (OfCall n) ls
  ends_hold n holds [] ends = tt
  ends_hold n holds (Called t ∷ ls) (one, others) = (holds one.0 t.event.call one.1, ends_hold n holds ls others)
  ends_hold n holds (Saw r ∷ ls) (one, others) = absurd one

-- ---- an event stands among the entries of its caller

pub some_at : {X : Type 0} (xs : List X) (i : ℕ) → i < length xs → (x : X) × (slice_get xs i ≡ Some x)
some_at [] i low = absurd (omega (arith, low))
some_at (x ∷ xs) zero low = (x, refl)
some_at (x ∷ xs) (suc i) low = some_at xs i (omega (arith, low))

pub some_low : {X : Type 0} (xs : List X) (i : ℕ) (x : X) → slice_get xs i ≡ Some x → i < length xs
some_low {X} [] i x at = absurd (let bad : ◌≡◌ {A = Option X} None (Some x) = at in cc)
some_low (y ∷ xs) zero x at = omega arith
some_low (y ∷ xs) (suc i) x at = let low = some_low xs i x at in omega (arith, low)

-- its place is one of its caller's
place_among : (es : List Event) (n k i : ℕ) (e : Event) → slice_get es i ≡ Some e → e.caller ≡ n → Among (k + i) (places (λ (x : Event). x.caller) n k es)
place_among [] n k i e at own = absurd (let bad : ◌≡◌ {A = Option Event} None (Some e) = at in cc)
place_among (x ∷ es) n k zero e at own =
    let same : x ≡ e = cc in
    let caller : x.caller ≡ n = ap (λ (y : Event). y.caller) same ∙ own in
    let yes : nat_eq x.caller n ≡ true = grind (arith, nat_tests) in
    let here : k + 0 ≡ k = omega arith in
    rw (yes, here) (0, refl)
place_among (x ∷ es) n k (suc i) e at own =
    let rest = place_among es n (k + 1) i e at own in
    let here : k + 1 + i ≡ k + suc i = omega arith in
    by (nat_eq x.caller n) (subst (λ m. Among m (places (λ (y : Event). y.caller) n (k + 1) es)) here rest)
  where
    by : (t : Bool) → Among (k + suc i) (places (λ (y : Event). y.caller) n (k + 1) es)
        → Among (k + suc i) (cond t (k ∷ places (λ (y : Event). y.caller) n (k + 1) es) (places (λ (y : Event). y.caller) n (k + 1) es))
    by true (j, found) = (suc j, found)
    by false found = found

-- and so one of the entries tells it
call_among : (ls : List Entry) (i : ℕ) → Among i (places_of ls) → (t : PlacedEvent) × Among (Called t) ls × (t.at ≡ i)
call_among [] i (j, found) = absurd (let bad : ◌≡◌ {A = Option ℕ} None (Some i) = found in cc)
call_among (Called t ∷ ls) i (zero, found) = (t, (zero, refl), cc)
call_among (Called t ∷ ls) i (suc j, found) = let rest = call_among ls i (j, found) in (rest.0, (suc rest.1.0, rest.1.1), rest.2)
call_among (Saw r ∷ ls) i found = let rest = call_among ls i found in (rest.0, (suc rest.1.0, rest.1.1), rest.2)

-- ---- all callers

module _ (P : ℕ → Call → Type 0) (batches : List ℕ) (s : Service) (plans : List Plan) (r : Report) (h : HeadlineBut batches s plans r)
    (of_plans : (n : ℕ) → n < length plans → OfRounds P n)
    (of_steps : (n : ℕ) (plan : Plan) → slice_get plans n ≡ Some plan → Every (OfStep P n) plan.steps.items)
    (of_workers : (n : ℕ) → length plans ≤ n → (b : ℕ) (c : Call) → Ends b c → P n c) where
  caller_holds : (n : ℕ) → n < s.callers → Every (OfCall P n) (entries_of n r.history.accounts)
  caller_holds n low = elim (cases_lt n (length plans)) [
    | inl plan ↦ (
        let p = some_at plans n plan in
        let answers = some_at r.answers n (omega (arith, h.answers_each, plan)) in
        let rounds = some_at r.rounds n (omega (arith, h.rounds_each, plan)) in
        let follows = h.follow n p.0 answers.0 rounds.0 p.1 answers.1 rounds.1 in
        steps_hold P n (of_plans n plan) 0 p.0.steps.items (stretch (entries_of n r.history.accounts) answers.0 rounds.0 follows.0)
        (of_steps n p.0 p.1) follows.1)
    | inr worker ↦ ends_hold P n (of_workers n worker) (entries_of n r.history.accounts) (h.work n worker low)
  ]

  pub event_holds : (i : ℕ) (e : Event) → slice_get r.history.events i ≡ Some e → P e.caller e.call
  event_holds i e at =
      let next = legal_place s r.history.events i e h.legal at in
      let n = e.caller in
      let agrees : Agrees r.history.events (account n (entries_of n r.history.accounts)) =
      entries_agree r.history.events n r.history.accounts (h.each n next.caller) h.agree in
      let place = place_among r.history.events n 0 i e at refl in
      let number : 0 + i ≡ i = omega arith in
      let among : Among i (places_of (entries_of n r.history.accounts)) =
      subst (λ (ps : List ℕ). Among i ps) (sym agrees.places_are) (subst (λ m. Among m (places (λ (y : Event). y.caller) n 0 r.history.events)) number place) in
      let found = call_among (entries_of n r.history.accounts) i among in
      let tells : slice_get r.history.events found.0.at ≡ Some found.0.event =
      every_among (Tells r.history.events) (entries_of n r.history.accounts) (Called found.0) found.1 agrees.tells in
      let here : slice_get r.history.events i ≡ Some found.0.event = subst (λ m. slice_get r.history.events m ≡ Some found.0.event) found.2 tells in
      let same : found.0.event ≡ e = (let two : ◌≡◌ {A = Option Event} (Some found.0.event) (Some e) = sym here ∙ at in cc) in
      let line : P n found.0.event.call =
      every_among (OfCall P n) (entries_of n r.history.accounts) (Called found.0) found.1 (caller_holds n next.caller) in
      subst (λ (x : Event). P n x.call) same line
