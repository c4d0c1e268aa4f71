-- What rounds of loads learn, where each read has its key's own outcome.
use Rattle.std.proofs.Common.{◌≡◌, ◌∙◌, ap, sym, subst, refl, ℕ, zero, suc, ◌+◌, List, [], ◌∷◌, ◌++◌, length, map, Option, Some, None, arith, inl, inr, ◌⊎◌}
use Rattle.std.specs.Prelude.{slice_get}
use Rattle.dl_values.specs.Key.{Key}
use Rattle.dl_values.specs.declared.outcome.Outcome.{Outcome}
use Rattle.dl_values.specs.declared.job.Job.{Job}
use Rattle.dl_desk.specs.declared.reply.LoadReply.{LoadReply}
use Rattle.dl_history.specs.Agreement.{Tells}
use Rattle.dl_history.specs.Entries.{Entry, cell_of_load}
use Rattle.dl_history.specs.History.{ending_of}
use Rattle.dl_history.specs.Lists.{Every, Among}
use Rattle.dl_desk.specs.declared.event.Call.TheVariants as call
use Rattle.dl_desk.specs.declared.event.Ending.{Ending}
use Rattle.dl_desk.specs.declared.event.Event.{Event}
use Rattle.dl_desk.specs.declared.event.Reply.TheVariants.{Many, Sent}
use Rattle.dl_history.proofs.ListLemmas.{every_append}
use Rattle.dl_loader.specs.Additions.{call_entry, saws}
use Rattle.dl_terms.specs.TermAnswers.{Pairs, frontier, gives}
use Rattle.dl_terms.specs.Tree.{Tree}
use Rattle.dl_terms.specs.View.{term_view}
use Rattle.dl_terms.specs.declared.term.Term.{Term}
use Rattle.dl_haxl.specs.Pairs.{paired}
use Rattle.dl_haxl.specs.Rounds.{Round, Rounds, HandedOver}
use Rattle.dl_haxl.specs.PlanEntries.{Stretch, stretch, step_answer, IsStep, AreSteps}
use Rattle.dl_scope.specs.OwnAnswers.{AreOwn, IsOwn}
use Rattle.dl_terms.specs.declared.plan.Step.{Step}
use Rattle.dl_terms.specs.declared.plan.Step.TheVariants.{Eval}
use Rattle.dl_haxl.specs.declared.step_answers.StepAnswer.{StepAnswer}
use Rattle.dl_scope.proofs.NoPrimes.{every_parts}

-- each outcome that is read of a loadMany's cell is its key's own
abbrev pub OwnReads : (Key → Outcome) → List Event → Type 0
OwnReads own events = (at caller : ℕ) (ks : List Key) (rs : List LoadReply)
    → slice_get events at ≡ Some (record { caller = caller; call = call.LoadMany ks; reply = Many rs })
    → (i : ℕ) (k : Key) (r : LoadReply) → slice_get ks i ≡ Some k → slice_get rs i ≡ Some r
    → (e : Ending) → ending_of events (cell_of_load r) ≡ Some e → e.outcome ≡ own k

among_parts : {X : Type 0} (x : X) (xs ys : List X) → Among x (xs ++ ys) → Among x xs ⊎ Among x ys
among_parts x [] ys among = inr among
among_parts x (z ∷ xs) ys (zero, at) = inl (zero, at)
among_parts x (z ∷ xs) ys (suc i, at) = elim (among_parts x xs ys (i, at)) [
  | inl here ↦ inl (suc here.0, here.1)
  | inr there ↦ inr there
]

module _ (own : Key → Outcome) (events : List Event) (reads : OwnReads own events) where
  saws_own : (ks : List Key) (rs : List LoadReply) (es : List Ending)
      → ((i : ℕ) (k : Key) (r : LoadReply) → slice_get ks i ≡ Some k → slice_get rs i ≡ Some r → (e : Ending)
      → ending_of events (cell_of_load r) ≡ Some e → e.outcome ≡ own k)
      → length rs ≡ length ks → length es ≡ length ks → Every (Tells events) (saws rs es) → AreOwn own (paired ks (map (λ (e : Ending). e.outcome) es))
  saws_own [] rs es each long ends told = tt
  saws_own (k ∷ ks) [] es each long ends told = absurd (omega (arith, long))
  saws_own (k ∷ ks) (r ∷ rs) [] each long ends told = absurd (omega (arith, ends))
  saws_own (k ∷ ks) (r ∷ rs) (e ∷ es) each long ends (one, others) =
      (each 0 k r refl refl e one, saws_own ks rs es (λ i j s at also. each (suc i) j s at also) (omega (arith, long)) (omega (arith, ends)) others)

  round_own : (JobsEnd : List Job → List Job → List Entry → Type 0) (caller : ℕ) (wanted : List Key) (lines : List Entry) (outcomes : List Outcome)
      (sent : List Job) → Every (Tells events) lines → Round JobsEnd caller wanted lines outcomes sent → AreOwn own (paired wanted outcomes)
  round_own JobsEnd caller wanted lines outcomes sent told round =
      let load = call_entry caller round.load_at (call.LoadMany wanted) (Many round.replies) in
      let dispatch = call_entry caller round.dispatch_at call.Dispatch (Sent round.jobs) in
      let whole : Every (Tells events) (load ∷ dispatch ∷ (round.ends ++ saws round.replies round.endings)) =
      subst (Every (Tells events)) round.tells told in
      let seen = every_parts (Tells events) round.ends (saws round.replies round.endings) whole.1.1 in
      let each = reads round.load_at caller wanted round.replies whole.0 in
      subst (λ (os : List Outcome). AreOwn own (paired wanted os)) (sym round.outcomes_are)
      (saws_own wanted round.replies round.endings each round.reply_each round.read_each seen.1)

  rounds_own : (JobsEnd : List Job → List Job → List Entry → Type 0) (caller : ℕ) (t : Tree) (n : ℕ) (lines : List Entry) (known : Pairs) (sent : List Job)
      → Every (Tells events) lines → Rounds JobsEnd caller t n lines known sent → AreOwn own known
  rounds_own JobsEnd caller t zero lines known sent told (none, empty, unsent) = subst (AreOwn own) (sym empty) tt
  rounds_own JobsEnd caller t (suc n) lines known sent told (before, last, past, earlier, later, split, parted, rounds, round) =
      let traces = every_parts (Tells events) before last (subst (Every (Tells events)) split told) in
      let first = rounds_own JobsEnd caller t n before past earlier traces.0 rounds in
      let next = round_own JobsEnd caller (frontier t past) last round.outcomes later traces.1 round.round in
      subst (AreOwn own) (sym round.gains)
      (every_append (λ (p : Key × Outcome). p.1 ≡ own p.0) past (paired (frontier t past) round.outcomes) first next)

  -- the answer of a step that is among what the steps gave
  abbrev pub Answered : ℕ → List Step → StepAnswer → Type 0
  Answered number steps given = (i : ℕ) × (term : Term) × (given.step ≡ number + i) × (slice_get steps i ≡ Some (Eval term))
      × IsOwn own (term_view term) given.answer

  no_answer : (number : ℕ) (steps : List Step) (s : Stretch) (lines : List Entry) (given : StepAnswer) → s ≡ stretch lines [] 0 [] → Among given s.answers
      → Answered number steps given
  no_answer number steps s lines given is among =
      let none : s.answers ≡ [] = ap (λ (x : Stretch). x.answers) is in
      let bad : ◌≡◌ {A = Option StepAnswer} None (Some given) = ap (λ (xs : List StepAnswer). slice_get xs among.0) (sym none) ∙ among.1 in
      absurd cc

  one_answer : (a b : StepAnswer) → Among a (b ∷ []) → a ≡ b
  one_answer a b (zero, at) = cc
  one_answer a b (suc i, at) = absurd (let bad : ◌≡◌ {A = Option StepAnswer} None (Some a) = at in cc)

  step_own : (caller number : ℕ) (step : Step) (steps : List Step) (s : Stretch) → Every (Tells events) s.lines → IsStep caller number step s
      → (given : StepAnswer) → Among given s.answers → Answered number (step ∷ steps) given
  step_own caller number (Eval term) steps s told (a, answers, (known, rounds, ended, gives)) given among =
      let here : given ≡ step_answer number a = one_answer given (step_answer number a) (subst (Among given) answers among) in
      let pairs = rounds_own (HandedOver caller) caller (term_view term) s.rounds s.lines known s.sent told rounds in
      let step : given.step ≡ number = ap (λ (x : StepAnswer). x.step) here in
      let answer : a ≡ given.answer = sym (ap (λ (x : StepAnswer). x.answer) here) in
      (0, term, omega (arith, step), refl, subst (IsOwn own (term_view term)) answer (known, pairs, gives))
  step_own caller number step steps s told (at, reply, is) given among = no_answer number (step ∷ steps) s _ given is among

  -- each answer is that of a term of the steps, by own outcomes
  pub steps_own : (caller number : ℕ) (steps : List Step) (s : Stretch) → Every (Tells events) s.lines → AreSteps caller number steps s
      → (given : StepAnswer) → Among given s.answers → Answered number steps given
  steps_own caller number [] s told none given among = no_answer number [] s [] given none among
  steps_own caller number (step ∷ steps) s told (own_part, rest, is, one, others) given among =
      let lines : s.lines ≡ own_part.lines ++ rest.lines = ap (λ (x : Stretch). x.lines) is in
      let answers : s.answers ≡ own_part.answers ++ rest.answers = ap (λ (x : Stretch). x.answers) is in
      let traces = every_parts (Tells events) own_part.lines rest.lines (subst (Every (Tells events)) lines told) in
      elim (among_parts given own_part.answers rest.answers (subst (Among given) answers among)) [
        | inl here ↦ step_own caller number step steps own_part traces.0 one given here
        | inr there ↦ (
            let found = steps_own caller (suc number) steps rest traces.1 others given there in
            let step_is : given.step ≡ suc number + found.0 = found.2 in
            (suc found.0, found.1, omega (arith, step_is), found.3, found.4))
      ]
