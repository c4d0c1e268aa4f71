-- The jobs that evaluations and steps send: with the batches that failed as unsent, as many as the dispatches handed out.
use Rattle.std.proofs.Common.{◌≡◌, ◌∙◌, ap, sym, subst, refl, ℕ, zero, suc, ◌+◌, List, [], ◌∷◌, ◌++◌, length, map, arith, length-append, inl, inr}
use Rattle.std.proofs.lemmas.List.{map-append}
use Rattle.std.proofs.lemmas.List.Concat.{flat_map-append}
use Rattle.dl_desk.specs.declared.reply.LoadReply.{LoadReply}
use Rattle.dl_values.specs.Key.{Key}
use Rattle.dl_values.specs.declared.outcome.Outcome.{Outcome}
use Rattle.dl_values.specs.declared.job.Job.{Job}
use Rattle.dl_history.specs.Entries.{Entry, PlacedEvent, calls_of}
use Rattle.dl_desk.specs.declared.event.Event.{Event}
use Rattle.dl_desk.specs.declared.event.Ending.{Ending}
use Rattle.dl_history.proofs.EntryLists.{calls_of-append}
use Rattle.dl_loader.specs.Additions.{saws}
use Rattle.dl_terms.specs.TermAnswers.{Pairs}
use Rattle.dl_terms.specs.Tree.{Tree}
use Rattle.dl_terms.specs.View.{term_view}
use Rattle.dl_terms.specs.declared.answer.Answer.{Answer}
use Rattle.dl_terms.specs.declared.plan.Step.{Step}
use Rattle.dl_terms.specs.declared.plan.Step.TheVariants.{Eval}
use Rattle.dl_loader.specs.Dispatches.{events_told, dispatched, dispatched_by, unsent, unsent_by}
use Rattle.dl_haxl.specs.PlanEntries.{Stretch, stretch, IsStep, AreSteps, FollowsAndSends}
use Rattle.dl_haxl.specs.Rounds.{EvaluatesQueued, HandedOver, Round, Rounds}
use Rattle.dl_haxl.specs.declared.step_answers.StepAnswer.{StepAnswer}

-- of the jobs that dispatches among the entries handed out each was sent, or its batch failed as unsent
abbrev pub EachSent : List Entry → List Job → Type 0
EachSent lines sent = length sent + length (unsent (events_told lines)) ≡ length (dispatched (events_told lines))

-- ---- entries, one after others

pub told-append : (ls ms : List Entry) → events_told (ls ++ ms) ≡ events_told ls ++ events_told ms
told-append ls ms =
    let f : PlacedEvent → Event = λ t. t.event in
    ap (map f) (calls_of-append ls ms) ∙ map-append f (calls_of ls) (calls_of ms)

pub unsent_long : (ls ms : List Entry) → length (unsent (events_told (ls ++ ms))) ≡ length (unsent (events_told ls)) + length (unsent (events_told ms))
unsent_long ls ms =
    ap (λ (es : List Event). length (unsent es)) (told-append ls ms)
    ∙ (ap length (flat_map-append (λ (e : Event). unsent_by e.call) (events_told ls) (events_told ms))
    ∙ length-append (unsent (events_told ls)) (unsent (events_told ms)))

pub dispatched_long : (ls ms : List Entry)
    → length (dispatched (events_told (ls ++ ms))) ≡ length (dispatched (events_told ls)) + length (dispatched (events_told ms))
dispatched_long ls ms =
    ap (λ (es : List Event). length (dispatched es)) (told-append ls ms)
    ∙ (ap length (flat_map-append (λ (e : Event). dispatched_by e.call e.reply) (events_told ls) (events_told ms))
    ∙ length-append (dispatched (events_told ls)) (dispatched (events_told ms)))

pub counted_append : (ls ms : List Entry) (js ks : List Job) → EachSent ls js → EachSent ms ks → EachSent (ls ++ ms) (js ++ ks)
counted_append ls ms js ks first next =
    let sent = length-append js ks in
    let back = unsent_long ls ms in
    let jobs = dispatched_long ls ms in
    omega (arith, first, next, sent, back, jobs)

-- ---- rounds

saws_told : (rs : List LoadReply) (es : List Ending) → events_told (saws rs es) ≡ []
saws_told [] es = refl
saws_told (r ∷ rs) [] = refl
saws_told (r ∷ rs) (e ∷ es) = saws_told rs es

record Handed (jobs sent : List Job) (ends : List Entry) : Type 0 where
  counted : length sent + length (unsent (events_told ends)) ≡ length jobs
  none : dispatched (events_told ends) ≡ []

handed_counted : (caller : ℕ) (jobs sent : List Job) (ends : List Entry) → HandedOver caller jobs sent ends → Handed jobs sent ends
handed_counted caller [] sent ends (none, no_end) = record {
  counted = rw (none, no_end) refl;
  none = ap (λ (ls : List Entry). dispatched (events_told ls)) no_end;
}
handed_counted caller (job ∷ jobs) sent ends (inl (rest, is, over)) =
    let so_far = handed_counted caller jobs rest ends over in
    let one = so_far.counted in
    let long : length sent ≡ suc (length rest) = ap length is in
    record { counted = omega (arith, one, long); none = so_far.none }
handed_counted caller (job ∷ jobs) sent ends (inr (at, rest, is, over)) =
    let so_far = handed_counted caller jobs sent rest over in
    let one = so_far.counted in
    let long : length (unsent (events_told ends)) ≡ suc (length (unsent (events_told rest))) = ap (λ (ls : List Entry). length (unsent (events_told ls))) is in
    record {
      counted = omega (arith, one, long);
      none = ap (λ (ls : List Entry). dispatched (events_told ls)) is ∙ so_far.none;
    }

module _ (caller : ℕ) where
  round_counted : (wanted : List Key) (lines : List Entry) (outcomes : List Outcome) (sent : List Job)
      → Round (HandedOver caller) caller wanted lines outcomes sent → EachSent lines sent
  round_counted wanted lines outcomes sent round =
      let over = handed_counted caller round.jobs sent round.ends round.jobs_end in
      let reads : List Entry = saws round.replies round.endings in
      let none = saws_told round.replies round.endings in
      let no_back : length (unsent (events_told reads)) ≡ 0 = ap (λ (es : List Event). length (unsent es)) none in
      let no_job : length (dispatched (events_told reads)) ≡ 0 = ap (λ (es : List Event). length (dispatched es)) none in
      let ends_none : length (dispatched (events_told round.ends)) ≡ 0 = ap length over.none in
      let back : length (unsent (events_told lines)) ≡ length (unsent (events_told (round.ends ++ reads))) =
      ap (λ (ls : List Entry). length (unsent (events_told ls))) round.tells in
      let jobs : length (dispatched (events_told lines)) ≡ length (round.jobs ++ dispatched (events_told (round.ends ++ reads))) =
      ap (λ (ls : List Entry). length (dispatched (events_told ls))) round.tells in
      let counted = over.counted in
      let long = length-append round.jobs (dispatched (events_told (round.ends ++ reads))) in
      let back2 = unsent_long round.ends reads in
      let jobs2 = dispatched_long round.ends reads in
      omega (arith, counted, no_back, no_job, ends_none, back, jobs, long, back2, jobs2)

  module _ (t : Tree) where
    rounds_counted : (n : ℕ) (lines : List Entry) (known : Pairs) (sent : List Job) → Rounds (HandedOver caller) caller t n lines known sent
        → EachSent lines sent
    rounds_counted zero lines known sent (none, empty, unsent_none) = rw (none, unsent_none) refl
    rounds_counted (suc n) lines known sent (before, last, past, earlier, later, split, parted, rounds, round) =
        let first = rounds_counted n before past earlier rounds in
        let next = round_counted _ last round.outcomes later round.round in
        let both = counted_append before last earlier later first next in
        subst (λ ls. EachSent ls sent) (sym split) (subst (λ js. EachSent (before ++ last) js) (sym parted) both)

    -- an evaluation
    pub evaluates_counted : (lines : List Entry) (a : Answer) (n : ℕ) (sent : List Job) → EvaluatesQueued caller t lines a n sent → EachSent lines sent
    evaluates_counted lines a n sent (known, rounds, ended, given) = rounds_counted n lines known sent rounds

  -- ---- steps

  -- a stretch of one call that is no dispatch and no end
  one_call : (s : Stretch) (l : Entry) → dispatched (events_told (l ∷ [])) ≡ [] → unsent (events_told (l ∷ [])) ≡ [] → s ≡ stretch (l ∷ []) [] 0 []
      → EachSent s.lines s.sent
  one_call s l none no_back is =
      let jobs : length (dispatched (events_told s.lines)) ≡ 0 =
      ap (λ (x : Stretch). length (dispatched (events_told x.lines))) is ∙ ap length none in
      let back : length (unsent (events_told s.lines)) ≡ 0 =
      ap (λ (x : Stretch). length (unsent (events_told x.lines))) is ∙ ap length no_back in
      let sent : length s.sent ≡ 0 = ap (λ (x : Stretch). length x.sent) is in
      omega (arith, jobs, back, sent)

  step_counted : (number : ℕ) (step : Step) (s : Stretch) → IsStep caller number step s → EachSent s.lines s.sent
  step_counted number (Eval term) s (a, answers, evaluates) = evaluates_counted (term_view term) s.lines a s.rounds s.sent evaluates
  step_counted number step s (at, reply, is) = one_call s _ refl refl is

  steps_counted : (number : ℕ) (steps : List Step) (s : Stretch) → AreSteps caller number steps s → EachSent s.lines s.sent
  steps_counted number [] s is = subst (λ (x : Stretch). EachSent x.lines x.sent) (sym is) refl
  steps_counted number (step ∷ steps) s (own, rest, is, one, others) =
      let first = step_counted number step own one in
      let next = steps_counted (suc number) steps rest others in
      subst (λ (x : Stretch). EachSent x.lines x.sent) (sym is) (counted_append own.lines rest.lines own.sent rest.sent first next)

  -- the steps of a plan
  pub follows_counted : (steps : List Step) (lines : List Entry) (answers : List StepAnswer) (rounds : ℕ) (sent : List Job)
      → FollowsAndSends caller steps lines answers rounds sent → EachSent lines sent
  follows_counted steps lines answers rounds sent follows = steps_counted 0 steps (stretch lines answers rounds sent) follows
