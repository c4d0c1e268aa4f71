-- An evaluation from its rounds.
use Rattle.std.proofs.Common.{◌≡◌, ◌≢◌, ◌∙◌, ap, sym, subst, refl, ℕ, zero, suc, ◌+◌, ◌≤◌, Bool, true, false, List, [], ◌∷◌, ◌++◌, length}
use Rattle.std.proofs.Common.{Option, Some, None, arith, add-one, append_assoc, inl, inr, if◌then◌else◌}
use Rattle.std.specs.Prelude.{IfSome, IsSome, is_some}
use Rattle.std.specs.List.{AllByRecursion}
use Rattle.std.proofs.lemmas.Bool.{and_parts, and_from, cases_lt}
use Rattle.std.proofs.lemmas.List.{length-map}
use Rattle.std.proofs.lemmas.List.Elements.{All-from_recursion}
use Rattle.dl_values.specs.Key.{Key, key_eq}
use Rattle.dl_values.specs.declared.outcome.Outcome.{Outcome}
use Rattle.dl_values.specs.declared.job.Job.{Job}
use Rattle.dl_values.proofs.KeyLemmas.{key_eq-refl}
use Rattle.dl_history.specs.Entries.{Entry}
use Rattle.dl_desk.specs.declared.event.Ending.{Ending}
use Rattle.dl_loader.specs.Pass.{Trace, Ticket}
use Rattle.dl_terms.specs.declared.answer.Answer.{Answer}
use Rattle.dl_terms.specs.Tree.{Tree, ended, load, pick, follow, each, all, over, the_item, named, depth_of}
use Rattle.dl_terms.specs.TermAnswers.{Pairs, outcome_in, frontier, gives}
use Rattle.dl_terms.specs.Laws.{GivesByDepth}
use Rattle.dl_terms.specs.Rounds.{Gains, Covers, GainsFrontier, PartOf}
use Rattle.dl_terms.proofs.AnswersWithoutWaits.{answered}
use Rattle.dl_haxl.specs.Pairs.{AllLater, all_show, outcomes_shown, paired, with_shown}
use Rattle.dl_haxl.specs.Run.{Run, IsRunOf, Finishes, Learns, NowWants, Pends, asked_by}
use Rattle.dl_haxl.specs.Rounds.{AddsAndSends, Round, LastRound, Rounds, Evaluates, SentMore}
use Rattle.dl_haxl.proofs.Exploration.{more_known}

-- the pairs of a run once it has learned what its supplied tickets show
abbrev pub with_supplied : Run → Pairs
with_supplied r = r.learned ++ paired (asked_by r) (outcomes_shown r.tickets)

-- ---- tickets that show their outcomes show them later

later_shown : (a b : Option Ending) → is_some a ≡ true → IfSome a (λ e. b ≡ Some e) → b ≡ a
later_shown None b some later = absurd (let bad : ◌≡◌ {A = Bool} false true = some in cc)
later_shown (Some e) b some later = later

pub shown_later : (ts us : List Ticket) → all_show ts ≡ true → AllLater ts us → (all_show us ≡ true) × (outcomes_shown us ≡ outcomes_shown ts)
shown_later [] [] shown later = (refl, refl)
shown_later [] (u ∷ us) shown later = absurd later
shown_later (t ∷ ts) [] shown later = absurd later
shown_later (t ∷ ts) (u ∷ us) shown later =
    let parts = and_parts (is_some t.known) (all_show ts) shown in
    let same : u.known ≡ t.known = later_shown t.known u.known parts.0 later.0.known in
    let rest = shown_later ts us parts.1 later.1 in (
      and_from (is_some u.known) (all_show us) (ap is_some same ∙ parts.0) rest.0,
      ap (λ (o : Option Ending). with_shown o (outcomes_shown us)) same ∙ ap (with_shown t.known) rest.1,
    )

-- ---- what a round gains covers what was waited for

found_here : (k : Key) (o : Outcome) (ps : Pairs) → (b : Bool) → key_eq k k ≡ b → b ≡ true → IsSome (if b then Some o else outcome_in ps k)
found_here k o ps true is same = refl
found_here k o ps false is same = absurd (let bad : ◌≡◌ {A = Bool} false true = same in cc)

found_step : (b : Bool) (o : Outcome) (x : Option Outcome) → IsSome x → IsSome (if b then Some o else x)
found_step true o x some = refl
found_step false o x some = some

found-append : (ps : Pairs) (k : Key) (o : Outcome) (more : Pairs) → IsSome (outcome_in (ps ++ (k, o) ∷ more) k)
found-append [] k o more = found_here k o more (key_eq k k) refl (key_eq-refl k)
found-append (p ∷ ps) k o more = found_step (key_eq k p.0) p.1 (outcome_in (ps ++ (k, o) ∷ more) k) (found-append ps k o more)

covered : (ks : List Key) (os : List Outcome) (ps : Pairs) → length os ≡ length ks → AllByRecursion (λ k. IsSome (outcome_in (ps ++ paired ks os) k)) ks
covered [] os ps long = tt
covered (k ∷ ks) [] ps long = absurd (omega (arith, long))
covered (k ∷ ks) (o ∷ os) ps long =
    let less : length os ≡ length ks = omega arith in
    let one : Pairs = (k, o) ∷ [] in
    let split : (ps ++ one) ++ paired ks os ≡ ps ++ ((k, o) ∷ paired ks os) = append_assoc ps one (paired ks os) in
    (found-append ps k o (paired ks os), subst (λ qs. AllByRecursion (λ j. IsSome (outcome_in qs j)) ks) split (covered ks os (ps ++ one) less))

-- ---- what a run learns of tickets that show their outcomes

pub learned_now : (before after : Run) → all_show before.tickets ≡ true → AllLater before.tickets after.tickets → Learns before after
    → after.learned ≡ with_supplied before
learned_now before after shown later learns =
    learns.learned ∙ ap (λ os. before.learned ++ paired (asked_by before) os) (shown_later before.tickets after.tickets shown later).1

-- a pending poll wants keys then
pub wants_now : (before after : Run) → all_show before.tickets ≡ true → AllLater before.tickets after.tickets → Pends before after → NowWants before after
wants_now before after shown later pends = elim pends.waits [
  | inl still ↦ absurd (let bad : ◌≡◌ {A = Bool} true false = sym (shown_later before.tickets after.tickets shown later).0 ∙ still.unshown in cc)
  | inr wants ↦ wants
]

-- ---- jobs that were sent, and more

pub sent_after : (before next after : List Job) → SentMore before next → SentMore next after → SentMore before after
sent_after before next after (sent, first) (more, second) =
    (sent ++ more, second ∙ (ap (λ js. js ++ more) first ∙ append_assoc before sent more))

module _ (JobsEnd : List Job → List Job → List Entry → Type 0) (caller : ℕ) (t : Tree) where
  pub rounds_gain : (n : ℕ) (lines : List Entry) (known : Pairs) (sent : List Job) → Rounds JobsEnd caller t n lines known sent → GainsFrontier t n [] known
  rounds_gain zero lines known sent (none, empty, unsent) = sym empty
  rounds_gain (suc n) lines known sent (before, last, past, earlier, later, split, parted, rounds, round) =
      let ks = frontier t past in
      let os = round.outcomes in
      let long : length os ≡ length ks = ap length round.round.outcomes_are
      ∙ (length-map round.round.endings (λ (e : Ending). e.outcome) ∙ round.round.read_each) in
      let gains : Gains past known = subst (λ qs. Gains past qs) (sym round.gains) (more_known past (paired ks os)) in
      let covers : Covers ks known = subst (λ qs. Covers ks qs) (sym round.gains)
      (All-from_recursion (λ k. IsSome (outcome_in (past ++ paired ks os) k)) ks (covered ks os past long)) in
      (past, rounds_gain n before past earlier rounds, gains, covers)

  -- ---- at most as many as the term is deep

  whole : (u : Tree) → PartOf u u
  whole (ended a) = refl
  whole (load k) = refl
  whole (pick u field) = inl refl
  whole (follow u field table) = inl refl
  whole (each u field table) = inl refl
  whole (all us) = inl refl
  whole (over u body) = inl refl
  whole the_item = refl
  whole (named names us) = inl refl

  below_depth : GivesByDepth → (n : ℕ) (before : List Entry) (past : Pairs) (earlier : List Job) → Rounds JobsEnd caller t n before past earlier
      → frontier t past ≢ [] → depth_of t ≤ n → ⊥
  below_depth law n before past earlier rounds some low =
      some (answered (outcome_in past) t (law t t n [] past (rounds_gain n before past earlier rounds) (whole t) low))

  pub rounds_within : GivesByDepth → (n : ℕ) (lines : List Entry) (known : Pairs) (sent : List Job) → Rounds JobsEnd caller t n lines known sent
      → n ≤ depth_of t
  rounds_within law zero lines known sent rounds = omega arith
  rounds_within law (suc n) lines known sent (before, last, past, earlier, later, split, parted, rounds, round) =
      elim (cases_lt n (depth_of t)) [
        | inl high ↦ (let most : suc n ≤ depth_of t =
            omega (arith, high) in most)
        | inr low ↦ absurd (below_depth law n before past earlier rounds round.some low)
      ]

  -- ---- one round more, and the end

  -- the run has wanted all that the term waits for, and a round has loaded that
  pub rounds_next : (n : ℕ) (old now new : Trace) (first next last : List Job) (known : Pairs) (wanted : List Key) (outcomes : List Outcome)
      → AddsAndSends old now first next (λ lines sent. Rounds JobsEnd caller t n lines known sent)
      → AddsAndSends now new next last (λ lines sent. Round JobsEnd caller wanted lines outcomes sent)
      → wanted ≡ frontier t known → wanted ≢ []
      → AddsAndSends old new first last (λ lines sent. Rounds JobsEnd caller t (n + 1) lines (known ++ paired wanted outcomes) sent)
  rounds_next n old now new first next last known wanted outcomes (earlier, so_far, before) (later, so_far_too, one) is some =
      let lines = before.1 ++ one.1 in
      let jobs : last ≡ first ++ (earlier ++ later) = so_far_too ∙ (ap (λ js. js ++ later) so_far ∙ append_assoc first earlier later) in
      let entries : new.entries ≡ old.entries ++ lines = one.2 ∙ (ap (λ ls. ls ++ one.1) before.2 ∙ append_assoc old.entries before.1 one.1) in
      let round : LastRound JobsEnd caller t known one.1 (known ++ paired wanted outcomes) later = record {
        outcomes = outcomes;
        some = λ none. some (is ∙ none);
        round = subst (λ ks. Round JobsEnd caller ks one.1 outcomes later) is one.3;
        gains = ap (λ ks. known ++ paired ks outcomes) is;
      } in
      let more : Rounds JobsEnd caller t (suc n) lines (known ++ paired wanted outcomes) (earlier ++ later) =
      (before.1, one.1, known, earlier, later, refl, refl, before.3, round) in (
        earlier ++ later,
        jobs,
        (
          one.0 ∙ before.0,
          lines,
          entries,
          subst (λ m. Rounds JobsEnd caller t m lines (known ++ paired wanted outcomes) (earlier ++ later)) (sym (add-one n)) more,
        ),
      )

  -- the answer of the run is that of the evaluation
  pub run_ends : (n : ℕ) (old now : Trace) (first next : List Job) (before after : Run) (a : Answer)
      → AddsAndSends old now first next (λ lines sent. Rounds JobsEnd caller t n lines (with_supplied before) sent)
      → all_show before.tickets ≡ true → AllLater before.tickets after.tickets → Finishes before after a → IsRunOf t before
      → AddsAndSends old now first next (λ lines sent. Evaluates JobsEnd caller t lines a n sent)
  run_ends n old now first next before after a (sent, jobs, added) shown later answers run =
      let learned : after.learned ≡ with_supplied before = learned_now before after shown later answers.learns in
      let given : gives t after.learned a = answers.given t run in
      let rounds : Rounds JobsEnd caller t n added.1 after.learned sent =
      subst (λ qs. Rounds JobsEnd caller t n added.1 qs sent) (sym learned) added.3 in
      (sent, jobs, (added.0, added.1, added.2, (after.learned, rounds, answered (outcome_in after.learned) t (a, given), given)))
