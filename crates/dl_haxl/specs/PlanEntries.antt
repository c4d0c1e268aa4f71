-- How the entries of a plan's caller follow the plan: for each step a stretch of them, in order.
use Rattle.std.specs.Prelude.{◌≡◌, ℕ, suc, ◌+◌, List, [], ◌∷◌, ◌++◌}
use Rattle.dl_values.specs.declared.job.Job.{Job}
use Rattle.dl_history.specs.Entries.{Entry}
use Rattle.dl_desk.specs.declared.event.Call.{Call}
use Rattle.dl_desk.specs.declared.event.Call.TheVariants as call
use Rattle.dl_desk.specs.declared.event.Reply.{Reply}
use Rattle.dl_loader.specs.Additions.{call_entry}
use Rattle.dl_terms.specs.declared.answer.Answer.{Answer}
use Rattle.dl_terms.specs.View.{term_view}
use Rattle.dl_haxl.specs.Rounds.{EvaluatesQueued}
use Rattle.dl_terms.specs.declared.plan.Step.{Step}
use Rattle.dl_terms.specs.declared.plan.Step.TheVariants.{Prime, Clear, ClearAll, Eval}
use Rattle.dl_haxl.specs.declared.step_answers.StepAnswer.{StepAnswer}

-- what a step leaves: entries of its caller, the answer of its term, if it has one, the rounds of loads that this took,
-- and the jobs that the caller sent to the queue
pub record Stretch : Type 0 where
  pub lines : List Entry
  pub answers : List StepAnswer
  pub rounds : ℕ
  pub sent : List Job

abbrev pub stretch : List Entry → List StepAnswer → ℕ → List Job → Stretch
stretch lines answers rounds sent = record { lines = lines; answers = answers; rounds = rounds; sent = sent }

-- what steps leave, and then others
abbrev pub then : Stretch → Stretch → Stretch
then first next =
    stretch (first.lines ++ next.lines) (first.answers ++ next.answers) (first.rounds + next.rounds) (first.sent ++ next.sent)

-- the step of this number gave the answer
abbrev pub step_answer : ℕ → Answer → StepAnswer
step_answer number answer = record { step = number; answer = answer }

-- a step that is a call: it leaves one entry, of just that call, and sends no job
abbrev pub IsCall : ℕ → Call → Stretch → Type 0
IsCall caller call s = (at : ℕ) × (reply : Reply) × (s ≡ stretch (call_entry caller at call reply ∷ []) [] 0 [])

-- What the caller's step of this number leaves. A prime, a clear and a clearAll are that call. A term takes rounds of
-- loads, and gives its answer (Haxl).
abbrev pub IsStep : ℕ → ℕ → Step → Stretch → Type 0
IsStep caller number (Prime key outcome) s = IsCall caller (call.Prime key outcome) s
IsStep caller number (Clear key) s = IsCall caller (call.Clear key) s
IsStep caller number ClearAll s = IsCall caller call.ClearAll s
IsStep caller number (Eval term) s =
    (a : Answer) × (s.answers ≡ step_answer number a ∷ []) × EvaluatesQueued caller (term_view term) s.lines a s.rounds s.sent

-- what steps leave, numbered from here on: what each of them leaves, in order
abbrev pub AreSteps : ℕ → ℕ → List Step → Stretch → Type 0
AreSteps caller number [] s = s ≡ stretch [] [] 0 []
AreSteps caller number (step ∷ steps) s =
    (own : Stretch) × (rest : Stretch) × (s ≡ then own rest) × IsStep caller number step own × AreSteps caller (suc number) steps rest

-- the entries, answers and rounds of a caller, and the jobs that it sent, are those of the plan's steps
abbrev pub FollowsAndSends : ℕ → List Step → List Entry → List StepAnswer → ℕ → List Job → Type 0
FollowsAndSends caller steps lines answers rounds sent = AreSteps caller 0 steps (stretch lines answers rounds sent)

-- the entries, answers and rounds of a caller are those of the plan's steps, whichever jobs it sent
abbrev pub Follows : ℕ → List Step → List Entry → List StepAnswer → ℕ → Type 0
Follows caller steps lines answers rounds = (sent : List Job) × FollowsAndSends caller steps lines answers rounds sent
