-- What a run is after a poll that explored its term.
use Rattle.std.proofs.Common.{◌≡◌, ◌≢◌, ◌∙◌, ap, sym, subst, refl, Bool, true, false, List, [], ◌∷◌, ◌++◌, Option, Some, None, if◌then◌else◌}
use Rattle.std.specs.Prelude.{IfNone, IfOk, IfSome, ◌⊎◌, Result, Ok, Err}
use Rattle.std.proofs.Common.{inl, inr}
use Rattle.futures.specs.Poll.{OnPending}
use Rattle.futures.specs.declared.task.Poll.{Poll}
use Rattle.futures.specs.declared.task.Poll.TheVariants.{Ready, Pending}
use Rattle.indexmap.specs.IndexSet.{insert_all}
use Rattle.dl_values.specs.Key.{Key, key_eq}
use Rattle.dl_values.specs.declared.outcome.Outcome.{Outcome}
use Rattle.dl_terms.specs.declared.answer.Answer.{Answer}
use Rattle.dl_terms.specs.Tree.{Tree}
use Rattle.dl_terms.specs.TermAnswers.{Pairs, outcome_in, answer, waits, firsts, frontier}
use Rattle.dl_terms.specs.Node.{result_of}
use Rattle.dl_terms.specs.Reduction.{Reduces}
use Rattle.dl_terms.specs.Rounds.{KnowsMore}
use Rattle.dl_terms.proofs.WaitingKeys.{inserted_none}
use Rattle.dl_terms.proofs.Options.{none_absurd}
use Rattle.dl_terms.proofs.AnswersWithoutWaits.{unblocked}
use Rattle.dl_haxl.specs.Pairs.{paired, all_show, outcomes_shown}
use Rattle.dl_haxl.specs.Run.{Run, run_at, MeansSame, Learns, NowWants, StillWaits, Pends, Finishes, MayAnswer, Waiting, asked_by}
use Rattle.dl_haxl.specs.declared.stage.Stage.TheVariants.{Learning, Wanting, Ended}
use Rattle.dl_haxl.specs.declared.stage.Stage.{Stage}
use Rattle.dl_haxl.specs.declared.fault.PollFault.TheVariants.{Finished}
use Rattle.dl_haxl.specs.declared.fault.PollFault.{PollFault}
use Rattle.dl_loader.specs.Pass.{Ticket}

-- ---- what is known more

found_by : (b : Bool) (a o : Outcome) (x y : Option Outcome) → (x ≡ Some o → y ≡ Some o) → (if b then Some a else x) ≡ Some o
    → (if b then Some a else y) ≡ Some o
found_by true a o x y next is = is
found_by false a o x y next is = next is

pub more_known : (ps more : Pairs) → KnowsMore (outcome_in ps) (outcome_in (ps ++ more))
more_known [] more k o is = absurd (none_absurd o is)
more_known (p ∷ ps) more k o is = found_by (key_eq k p.0) p.1 o (outcome_in ps k) (outcome_in (ps ++ more) k) (more_known ps more k o) is

more_and_more : (p q r : Key → Option Outcome) → KnowsMore p q → KnowsMore q r → KnowsMore p r
more_and_more p q r first next k o is = next k o (first k o is)

-- ---- what a tree that stands for another means

pub still_means : (p q : Key → Option Outcome) (t u v : Tree) → MeansSame p t u → KnowsMore p q → Reduces q u v → MeansSame q t v
still_means p q t u v same more reduces = record {
  meaning = λ r known. reduces.meaning r known ∙ same.meaning r (more_and_more p q r more known);
  waiting = λ r known. reduces.waiting r known ∙ same.waiting r (more_and_more p q r more known);
}

-- the answer of the tree that was explored is the term's
pub given_then : (p q : Key → Option Outcome) (t u v : Tree) (a : Answer) → MeansSame p t u → KnowsMore p q → Reduces q u v → result_of v ≡ Some a
    → answer q t ≡ Some a
given_then p q t u v a same more reduces ended = sym (same.meaning q more) ∙ (sym reduces.ending ∙ ended)

-- what it waits for is what the term waits for
pub frontier_then : (p q : Pairs) (t u : Tree) → MeansSame (outcome_in p) t u → KnowsMore (outcome_in p) (outcome_in q) → frontier u q ≡ frontier t q
frontier_then p q t u same more = ap firsts (same.waiting (outcome_in q) more)

-- ---- the keys that are wanted once a tree was explored

pub wants : (q : Pairs) (u v : Tree) (keys : List Key) → Reduces (outcome_in q) u v → keys ≡ insert_all key_eq [] (waits (outcome_in q) u) → keys ≡ frontier u q
wants q u v keys reduces is = is ∙ inserted_none (waits (outcome_in q) u)

pub wants_left : (q : Pairs) (u v : Tree) (keys : List Key) → Reduces (outcome_in q) u v → keys ≡ insert_all key_eq [] (waits (outcome_in q) u)
    → keys ≡ frontier v q
wants_left q u v keys reduces is = wants q u v keys reduces is ∙ ap firsts (sym (reduces.waiting (outcome_in q) (λ k o known. known)))

pub wants_some : (q : Pairs) (u v : Tree) (keys : List Key) → Reduces (outcome_in q) u v → keys ≡ insert_all key_eq [] (waits (outcome_in q) u)
    → result_of v ≡ None → keys ≢ []
wants_some q u v keys reduces is none empty =
    let given = unblocked (outcome_in q) u (sym (wants q u v keys reduces is) ∙ empty) in
    none_absurd given.0 (sym none ∙ (reduces.ending ∙ given.1))

-- ---- the run

-- the stage after a term was explored as far as this
abbrev pub stage_after : Option Answer → Stage
stage_after None = Wanting
stage_after (Some a) = Ended Finished

ended_not_learning : Ended Finished ≢ Learning
ended_not_learning same = let e : ◌≡◌ {A = Stage} (Ended Finished) Learning = same in cc

ended_not_wanting : Ended Finished ≢ Wanting
ended_not_wanting same = let e : ◌≡◌ {A = Stage} (Ended Finished) Wanting = same in cc

wanting_not_learning : Wanting ≢ Learning
wanting_not_learning same = let e : ◌≡◌ {A = Stage} Wanting Learning = same in cc

pub learning_not_wanting : Learning ≢ Wanting
learning_not_wanting same = wanting_not_learning (sym same)

-- The run was at p with u left, and asked for keys. Its tickets show their outcomes now; with these, the pairs are q, and v is left.
module _ (p q : Pairs) (u v : Tree) (keys next : List Key) (before now : List Ticket) (shown : all_show now ≡ true)
    (learned : q ≡ p ++ paired keys (outcomes_shown now)) (reduces : Reduces (outcome_in q) u v) where
  more : KnowsMore (outcome_in p) (outcome_in q)
  more = subst (λ ps. KnowsMore (outcome_in p) (outcome_in ps)) (sym learned) (more_known p (paired keys (outcomes_shown now)))

  answers : (s : Stage) (w : Tree) (a : Answer) → Some a ≡ result_of v → Finishes (run_at Learning u p keys before) (run_at s w q next now) a
  answers s w a is = record {
    learns = record { shown = shown; learned = learned };
    given = λ t run. given_then (outcome_in p) (outcome_in q) t u v a run more reduces (sym is);
  }

  pub then_answers : (first : Stage) → first ≡ Learning → (r : Option Answer) (s : Stage) (w : Tree) → r ≡ result_of v
      → IfSome r (Finishes (run_at first u p keys before) (run_at s w q next now))
  then_answers first learning None s w is = tt
  then_answers first learning (Some a) s w is = subst (λ x. Finishes (run_at x u p keys before) (run_at s w q next now) a) (sym learning) (answers s w a is)

  module _ (added : next ≡ insert_all key_eq [] (waits (outcome_in q) u)) where
    pends : result_of v ≡ None → Pends (run_at Learning u p keys before) (run_at Wanting v q next now)
    pends none = record {
      run = λ t run. still_means (outcome_in p) (outcome_in q) t u v run more reduces;
      waits = inr (record {
        learns = record { shown = shown; learned = learned };
        some = wants_some q u v next reduces added none;
        all = λ t run. wants q u v next reduces added ∙ frontier_then p q t u run more;
      });
    }

    pub then_pends : (first : Stage) → first ≡ Learning → (r : Option Answer) (s : Stage) (w : Tree) → r ≡ result_of v → (r ≡ None → w ≡ v) → s ≡ stage_after r
        → IfNone r (Pends (run_at first u p keys before) (run_at s w q next now))
    then_pends first learning None s w is kept stage =
        subst (λ x. Pends (run_at x u p keys before) (run_at s w q next now)) (sym learning)
        (subst (λ x. Pends (run_at Learning u p keys before) (run_at x w q next now)) (sym stage)
        (subst (λ x. Pends (run_at Learning u p keys before) (run_at Wanting x q next now)) (sym (kept refl)) (pends (sym is))))
    then_pends first learning (Some a) s w is kept stage = tt

    waiting : result_of v ≡ None → Waiting (run_at Wanting v q next now)
    waiting none = record {
      frontier = wants_left q u v next reduces added;
      some = wants_some q u v next reduces added none;
      shown = shown;
    }

    pub then_waiting : (r : Option Answer) (s : Stage) (w : Tree) → r ≡ result_of v → (r ≡ None → w ≡ v) → s ≡ stage_after r → s ≡ Wanting
        → Waiting (run_at s w q next now)
    then_waiting None s w is kept stage now_wanting =
        subst (λ x. Waiting (run_at x w q next now)) (sym stage) (subst (λ x. Waiting (run_at Wanting x q next now)) (sym (kept refl)) (waiting (sym is)))
    then_waiting (Some a) s w is kept stage now_wanting = absurd (ended_not_wanting (sym stage ∙ now_wanting))

pub not_learning : (r : Option Answer) (s : Stage) → s ≡ stage_after r → s ≢ Learning
not_learning None s stage same = wanting_not_learning (sym stage ∙ same)
not_learning (Some a) s stage same = ended_not_learning (sym stage ∙ same)

-- ---- what a run may still answer

itself : (p : Key → Option Outcome) (t : Tree) → MeansSame p t t
itself p t = record { meaning = λ q more. refl; waiting = λ q more. refl }

learns_more : (old new : Run) → Learns old new → KnowsMore (outcome_in old.learned) (outcome_in new.learned)
learns_more old new learns =
    let more = paired (asked_by old) (outcomes_shown new.tickets) in
    subst (λ ps. KnowsMore (outcome_in old.learned) (outcome_in ps)) (sym learns.learned) (more_known old.learned more)

pends_more : (old new : Run) → StillWaits old new ⊎ NowWants old new → KnowsMore (outcome_in old.learned) (outcome_in new.learned)
pends_more old new (inl still) = subst (λ ps. KnowsMore (outcome_in old.learned) (outcome_in ps)) (sym still.learned) (λ k o is. is)
pends_more old new (inr wants) = learns_more old new wants.learns

-- what it may answer after a pending poll it may before
pub may_before : (old new : Run) → Pends old new → (r : Result Answer PollFault) → MayAnswer new r → MayAnswer old r
may_before old new pends (Ok a) (q, known, is) =
    let run = pends.run old.left (itself (outcome_in old.learned) old.left) in
    (q, more_and_more (outcome_in old.learned) (outcome_in new.learned) q (pends_more old new pends.waits) known, sym (run.meaning q known) ∙ is)
may_before old new pends (Err fault) may = tt

-- what it answers it may answer
pub may_answer : (old new : Run) (r : Result Answer PollFault) → IfOk r (Finishes old new) → MayAnswer old r
may_answer old new (Ok a) answers =
    (outcome_in new.learned, learns_more old new answers.learns, answers.given old.left (itself (outcome_in old.learned) old.left))
may_answer old new (Err fault) answers = tt

pub on_pending : {A P : Type 0} (r : Poll A) → P → OnPending r P
on_pending (Ready x) p = tt
on_pending Pending p = p
