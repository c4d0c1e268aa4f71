-- What the threads of a server gave back, put together.
use Rattle.std.specs.Prelude.{◌≡◌, ℕ, List, [], ◌∷◌, ◌++◌, map, Ok, IsOk, Vec}
use Rattle.std.specs.declared.alloc.Global.{Global}
use Rattle.dl_haxl.specs.declared.step_answers.StepAnswer.{StepAnswer}
use Rattle.dl_haxl.specs.declared.step_answers.StepAnswers.{StepAnswers}
use Rattle.dl_scope.specs.declared.threads.thread_results.ThreadResults.{ThreadResults}
use Rattle.dl_scope.specs.declared.threads.runs.PlanRun.{PlanRun}
use Rattle.dl_scope.specs.declared.threads.runs.Runs.{Runs}

module _ {L : Type 0} where
  -- no step of the plan met a fault
  abbrev pub WasTaken : PlanRun L → Type 0
  WasTaken run = IsOk run.given

  -- the plan gave these answers and took so many rounds
  abbrev pub Gave : PlanRun L → List StepAnswer → ℕ → Type 0
  Gave run answers rounds = (given : StepAnswers) × (run.given ≡ Ok given) × (given.answers.items ≡ answers) × (given.rounds ≡ rounds)

  -- so did each of the plans
  abbrev pub AllGave : List (PlanRun L) → List (List StepAnswer) → List ℕ → Type 0
  AllGave [] [] [] = Unit {0}
  AllGave (run ∷ runs) (a ∷ answers) (n ∷ rounds) = Gave run a n × AllGave runs answers rounds
  AllGave [] (a ∷ answers) rounds = ⊥
  AllGave [] [] (n ∷ rounds) = ⊥
  AllGave (run ∷ runs) [] rounds = ⊥
  AllGave (run ∷ runs) (a ∷ answers) [] = ⊥

  -- what the plan gave is put behind answers and rounds
  abbrev pub AddsGiven : PlanRun L → List (Vec StepAnswer Global) → List ℕ → List (Vec StepAnswer Global) → List ℕ → Type 0
  AddsGiven run answers rounds more further = (given : StepAnswers) × (run.given ≡ Ok given)
      × (more ≡ answers ++ given.answers ∷ []) × (further ≡ rounds ++ given.rounds ∷ [])

  -- nothing was put together
  pub record IsNoResult (all : ThreadResults L) : Type 0 where
    pub no_passes : all.passes.items ≡ []
    pub no_senders : all.senders.items ≡ []
    pub no_takers : all.takers.items ≡ []
    pub no_answers : all.answers.items ≡ []
    pub no_rounds : all.rounds.items ≡ []

  -- passes and seats of all threads, the plans' first, and what the plans gave
  pub record AreResults (runs : Runs L) (all : ThreadResults L) : Type 0 where
    pub passes : all.passes.items ≡ map (λ run. run.pass) runs.plans.items ++ map (λ run. run.pass) runs.workers.items
    pub senders : all.senders.items ≡ map (λ run. run.sender) runs.plans.items ++ runs.own ∷ []
    pub takers : all.takers.items ≡ map (λ run. run.taker) runs.workers.items
    pub gave : AllGave runs.plans.items (map (λ a. a.items) all.answers.items) all.rounds.items
