-- What serving plans leaves before the loader is closed.
use Rattle.std.specs.Prelude.{◌≡◌, ℕ, suc, ◌+◌, List, [], ◌∷◌, length, nat_le, if◌then◌else◌}
use Rattle.dl_history.specs.Lists.{Every, total}
use Rattle.dl_loader.specs.Pass.{Trace}
use Rattle.dl_loader.specs.Dispatches.{dispatched, events_told, unsent}
use Rattle.dl_workers.specs.declared.queue.Tally.{Tally}
use Rattle.dl_haxl.specs.PlanEntries.{Follows}
use Rattle.dl_scope.specs.Headline.{TellsEnd}
use Rattle.dl_terms.specs.declared.plan.Plan.{Plan}
use Rattle.dl_haxl.specs.declared.step_answers.StepAnswer.{StepAnswer}

-- ---- by their passes

-- the passes are those of the callers from n on, and each of them ended batches and did nothing else
abbrev pub WorkersServed : ℕ → List Trace → Type 0
WorkersServed n [] = Unit {0}
WorkersServed n (p ∷ traces) = (p.caller ≡ n) × Every TellsEnd p.entries × WorkersServed (suc n) traces

-- The first passes are those of the callers from n on, and each follows its plan, with its answers and rounds. The others
-- are those of workers.
abbrev pub AreServed : ℕ → List Plan → List (List StepAnswer) → List ℕ → List Trace → Type 0
AreServed n [] [] [] traces = WorkersServed n traces
AreServed n (plan ∷ plans) (a ∷ answers) (r ∷ rounds) (p ∷ traces) =
    (p.caller ≡ n) × Follows n plan.steps.items p.entries a r × AreServed (suc n) plans answers rounds traces
AreServed n (plan ∷ plans) (a ∷ answers) (r ∷ rounds) [] = ⊥
AreServed n (plan ∷ plans) (a ∷ answers) [] traces = ⊥
AreServed n (plan ∷ plans) [] rounds traces = ⊥
AreServed n [] (a ∷ answers) rounds traces = ⊥
AreServed n [] [] (r ∷ rounds) traces = ⊥

-- ---- by their passes and their queue

-- The tally counts by what the passes tell: of the jobs that dispatches handed out, those were sent whose batches didn't
-- fail as unsent; those were taken whose batches the callers after so many plans ended; and each was taken or left.
pub record IsCounted (plans : ℕ) (traces : List Trace) (tally : Tally) : Type 0 where
  pub sent : tally.sent + total (λ p. length (unsent (events_told p.entries))) traces ≡ total (λ p. length (dispatched (events_told p.entries))) traces
  pub taken : tally.taken ≡ total (λ p. if nat_le plans p.caller then length (events_told p.entries) else 0) traces
  pub sum : tally.sent ≡ tally.taken + tally.left
