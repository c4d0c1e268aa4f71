-- What steps leave, one after another.
use Rattle.std.proofs.Common.{◌≡◌, ◌∙◌, ap, sym, subst, refl, ℕ, suc, ◌+◌, List, [], ◌∷◌, ◌++◌, length, append_assoc, append-nil, arith, zero, ◌≤◌}
use Rattle.std.proofs.Common.{length-append}
use Rattle.dl_history.specs.Entries.{Entry, calls_of}
use Rattle.dl_desk.specs.Service.{Service}
use Rattle.dl_desk.specs.declared.event.Call.{Call}
use Rattle.dl_desk.specs.declared.event.Reply.{Reply}
use Rattle.dl_loader.specs.EventEffect.{WasMade}
use Rattle.dl_loader.proofs.AdditionLemmas.{made_adds}
use Rattle.dl_history.proofs.EntryLists.{calls_of-append}
use Rattle.dl_loader.specs.Additions.{Adds}
use Rattle.dl_loader.specs.Pass.{Trace}
use Rattle.dl_values.specs.declared.job.Job.{Job}
use Rattle.dl_desk.specs.declared.event.Call.TheVariants.{LoadMany, Dispatch}
use Rattle.dl_desk.specs.declared.event.Reply.TheVariants.{Many, Sent}
use Rattle.dl_loader.specs.Additions.{call_entry, saws}
use Rattle.dl_terms.specs.TermAnswers.{Pairs, frontier}
use Rattle.dl_terms.specs.Tree.{Tree}
use Rattle.dl_terms.specs.View.{term_view}
use Rattle.dl_haxl.specs.Rounds.{AddsAndSends, Rounds, HandedOver}
use Rattle.dl_terms.specs.declared.plan.Step.TheVariants.{Eval}
use Rattle.dl_haxl.specs.PlanEntries.{Stretch, stretch, then, IsCall, IsStep, AreSteps, FollowsAndSends}
use Rattle.dl_terms.specs.declared.plan.Step.{Step}
use Rattle.dl_haxl.specs.declared.step_answers.StepAnswer.{StepAnswer}

-- stretches of the same entries, answers, rounds and jobs
same_stretch : (ls ms : List Entry) (given bs : List StepAnswer) (m n : ℕ) (js ks : List Job) → ls ≡ ms → given ≡ bs → m ≡ n → js ≡ ks
    → stretch ls given m js ≡ stretch ms bs n ks
same_stretch ls ms given bs m n js ks lines answers rounds sent =
    ap (λ xs. stretch xs given m js) lines ∙ (ap (λ xs. stretch ms xs m js) answers
    ∙ (ap (λ r. stretch ms bs r js) rounds ∙ ap (λ xs. stretch ms bs n xs) sent))

abbrev nothing : Stretch
nothing = stretch [] [] 0 []

then_none : (s : Stretch) → then s nothing ≡ s
then_none s = same_stretch (s.lines ++ []) s.lines (s.answers ++ []) s.answers (s.rounds + 0) s.rounds (s.sent ++ []) s.sent
    (append-nil s.lines) (append-nil s.answers) (omega arith) (append-nil s.sent)

none_then : (s : Stretch) → then nothing s ≡ s
none_then s = same_stretch s.lines s.lines s.answers s.answers (0 + s.rounds) s.rounds s.sent s.sent refl refl (omega arith) refl

then_assoc : (a b c : Stretch) → then (then a b) c ≡ then a (then b c)
then_assoc a b c = same_stretch ((a.lines ++ b.lines) ++ c.lines) (a.lines ++ (b.lines ++ c.lines))
    ((a.answers ++ b.answers) ++ c.answers) (a.answers ++ (b.answers ++ c.answers)) (a.rounds + b.rounds + c.rounds) (a.rounds + (b.rounds + c.rounds))
    ((a.sent ++ b.sent) ++ c.sent) (a.sent ++ (b.sent ++ c.sent))
    (append_assoc a.lines b.lines c.lines) (append_assoc a.answers b.answers c.answers) (omega arith) (append_assoc a.sent b.sent c.sent)

-- one step more
pub steps_more : (caller first number : ℕ) (steps : List Step) (step : Step) (s own : Stretch) → number ≡ first + length steps
    → AreSteps caller first steps s → IsStep caller number step own → AreSteps caller first (steps ++ step ∷ []) (then s own)
steps_more caller first number [] step s own is none one =
    let same : number ≡ first = omega (arith, is) in
    let now : then s own ≡ then own nothing = ap (λ t. then t own) none ∙ (none_then own ∙ sym (then_none own)) in
    (own, nothing, now, subst (λ n. IsStep caller n step own) same one, refl)
steps_more caller first number (x ∷ steps) step s own is (before, rest, split, taken, others) one =
    let next : number ≡ suc first + length steps = omega (arith, is) in (
      before,
      then rest own,
      ap (λ t. then t own) split ∙ then_assoc before rest own,
      taken,
      steps_more caller (suc first) number steps step rest own next others one,
    )

-- what steps leave in a pass and in what its sender sent
abbrev pub Leaves : Trace → Trace → List Job → List Job → List Step → List StepAnswer → ℕ → Type 0
Leaves old new before after steps answers r =
    AddsAndSends old new before after (λ lines sent. FollowsAndSends old.caller steps lines answers r sent)

-- what one step leaves there
abbrev pub LeavesOne : Trace → Trace → List Job → List Job → ℕ → Step → List StepAnswer → ℕ → Type 0
LeavesOne old new before after number step answers r =
    AddsAndSends old new before after (λ lines sent. IsStep old.caller number step (stretch lines answers r sent))

-- nothing was taken yet
pub leaves_none : (p : Trace) (before : List Job) → Leaves p p before before [] [] 0
leaves_none p before = ([], sym (append-nil before), (refl, [], sym (append-nil p.entries), refl))

-- one step more
pub leaves_more : (old now new : Trace) (before next after : List Job) (steps : List Step) (step : Step) (number : ℕ) (given more : List StepAnswer)
    (r q : ℕ) → number ≡ length steps → Leaves old now before next steps given r → LeavesOne now new next after number step more q
    → Leaves old new before after (steps ++ step ∷ []) (given ++ more) (r + q)
leaves_more old now new before next after steps step number given more r q is (sent, jobs, (caller, lines, entries, so_far))
    (later, jobs2, (caller2, own, entries2, taken)) =
    let one : IsStep old.caller number step (stretch own more q later) = subst (λ n. IsStep n number step (stretch own more q later)) caller taken in (
      sent ++ later,
      jobs2 ∙ (ap (λ js. js ++ later) jobs ∙ append_assoc before sent later),
      (
        caller2 ∙ caller,
        lines ++ own,
        entries2 ∙ (ap (λ ls. ls ++ own) entries ∙ append_assoc old.entries lines own),
        steps_more old.caller 0 number steps step (stretch lines given r sent) (stretch own more q later) (omega (arith, is)) so_far one,
      ),
    )

-- ---- how many rounds there are

module _ (JobsEnd : List Job → List Job → List Entry → Type 0) (caller : ℕ) (t : Tree) where
  -- each round is told by a call at least
  rounds_called : (n : ℕ) (lines : List Entry) (known : Pairs) (sent : List Job) → Rounds JobsEnd caller t n lines known sent → n ≤ length (calls_of lines)
  rounds_called zero lines known sent rounds = omega arith
  rounds_called (suc n) lines known sent (before, last, past, earlier, later, split, parted, rounds, round) =
      let first = rounds_called n before past earlier rounds in
      let own : List Entry = round.round.ends ++ saws round.round.replies round.round.endings in
      let load : Entry = call_entry caller round.round.load_at (LoadMany (frontier t past)) (Many round.round.replies) in
      let dispatch : Entry = call_entry caller round.round.dispatch_at Dispatch (Sent round.round.jobs) in
      let tells : calls_of last ≡ calls_of (load ∷ dispatch ∷ own) = ap calls_of round.round.tells in
      let some : 1 ≤ length (calls_of last) = rw tells (omega arith) in
      let whole : calls_of lines ≡ calls_of before ++ calls_of last = ap calls_of split ∙ calls_of-append before last in
      let long : length (calls_of lines) ≡ length (calls_of before) + length (calls_of last) =
      ap length whole ∙ length-append (calls_of before) (calls_of last) in
      omega (arith, first, some, long)

step_called : (caller number : ℕ) (step : Step) (s : Stretch) → IsStep caller number step s → s.rounds ≤ length (calls_of s.lines)
step_called caller number (Eval term) s (a, answers, (known, rounds, ended, gives)) =
    rounds_called (HandedOver caller) caller (term_view term) s.rounds s.lines known s.sent rounds
step_called caller number step s (at, reply, is) = let none : s.rounds ≡ 0 = ap (λ (x : Stretch). x.rounds) is in omega (arith, none)

steps_called : (caller number : ℕ) (steps : List Step) (s : Stretch) → AreSteps caller number steps s → s.rounds ≤ length (calls_of s.lines)
steps_called caller number [] s none = let zero : s.rounds ≡ 0 = ap (λ (x : Stretch). x.rounds) none in omega (arith, zero)
steps_called caller number (step ∷ steps) s (own, rest, is, one, others) =
    let first = step_called caller number step own one in
    let next = steps_called caller (suc number) steps rest others in
    let rounds : s.rounds ≡ own.rounds + rest.rounds = ap (λ (x : Stretch). x.rounds) is in
    let lines : calls_of s.lines ≡ calls_of own.lines ++ calls_of rest.lines =
    ap (λ (x : Stretch). calls_of x.lines) is ∙ calls_of-append own.lines rest.lines in
    let long : length (calls_of s.lines) ≡ length (calls_of own.lines) + length (calls_of rest.lines) =
    ap length lines ∙ length-append (calls_of own.lines) (calls_of rest.lines) in
    omega (arith, first, next, rounds, long)

-- at most as many as the pass has calls
pub rounds_few : (old new : Trace) (before after : List Job) (steps : List Step) (answers : List StepAnswer) (r : ℕ)
    → Leaves old new before after steps answers r → r ≤ length (calls_of new.entries)
rounds_few old new before after steps answers r (sent, jobs, (caller, lines, entries, follows)) =
    let few = steps_called old.caller 0 steps (stretch lines answers r sent) follows in
    let whole : calls_of new.entries ≡ calls_of old.entries ++ calls_of lines = ap calls_of entries ∙ calls_of-append old.entries lines in
    let long : length (calls_of new.entries) ≡ length (calls_of old.entries) + length (calls_of lines) =
    ap length whole ∙ length-append (calls_of old.entries) (calls_of lines) in
    omega (arith, few, long)

-- what steps gave is the same, told otherwise
pub leaves_same : (old new : Trace) (before after : List Job) (steps : List Step) (answers answers2 : List StepAnswer) (r q : ℕ) → answers2 ≡ answers
    → q ≡ r → Leaves old new before after steps answers r → Leaves old new before after steps answers2 q
leaves_same old new before after steps answers answers2 r q same rounds leaves =
    subst (λ n. Leaves old new before after steps answers2 n) (sym rounds)
    (subst (λ given. Leaves old new before after steps given r) (sym same) leaves)

-- ---- a step that is a call

-- a call of the caller's, and no job sent
pub call_step : (p q r : Trace) (before : List Job) (number : ℕ) (taken step : Step) (call : Call) → taken ≡ step → r ≡ q
    → ((s : Stretch) → IsCall p.caller call s → IsStep p.caller number step s)
    → Adds p q (λ lines. (at : ℕ) × (reply : Reply) × (lines ≡ call_entry p.caller at call reply ∷ []))
    → AddsAndSends p r before before (λ lines sent. IsStep p.caller number taken (stretch lines [] 0 sent))
call_step p q r before number taken step call same now is_step (caller, lines, entries, (at, reply, is)) =
    let one : IsStep p.caller number step (stretch lines [] 0 []) =
    is_step (stretch lines [] 0 []) (at, reply, ap (λ ls. stretch ls [] 0 []) is) in (
      [],
      sym (append-nil before),
      (
        ap (λ (x : Trace). x.caller) now ∙ caller,
        lines,
        ap (λ (x : Trace). x.entries) now ∙ entries,
        subst (λ st. IsStep p.caller number st (stretch lines [] 0 [])) (sym same) one,
      ),
    )

-- one that was made
pub made_step : (service : Service) (p q r : Trace) (before : List Job) (number : ℕ) (taken step : Step) (call : Call) (reply : Reply) → taken ≡ step
    → r ≡ q → ((s : Stretch) → IsCall p.caller call s → IsStep p.caller number step s) → WasMade service p call reply q
    → AddsAndSends p r before before (λ lines sent. IsStep p.caller number taken (stretch lines [] 0 sent))
made_step service p q r before number taken step call reply same now is_step made =
    let one = made_adds service p q call reply made in
    call_step p q r before number taken step call same now is_step
    (one.1, call_entry p.caller one.0 call reply ∷ [], one.2, (one.0, reply, refl))
