-- What contracts see of a report.
use Rattle.std.specs.Prelude.{ℕ, List}
use Rattle.dl_history.specs.ClosedHistory.{History}
use Rattle.dl_workers.specs.declared.queue.Tally.{Tally}
use Rattle.dl_haxl.specs.declared.step_answers.StepAnswer.{StepAnswer}

-- for each plan the answers of its terms and the number of its rounds, and for all plans the history and the tally of
-- the jobs
pub record Report : Type 0 where
  pub answers : List (List StepAnswer)
  pub rounds : List ℕ
  pub history : History
  pub tally : Tally

abbrev pub report : List (List StepAnswer) → List ℕ → History → Tally → Report
report answers rounds history tally = record { answers = answers; rounds = rounds; history = history; tally = tally }
