-- What was written, with the lines of the answers that are left, is the text of all answers.
use Rattle.std.proofs.Common.{◌≡◌, ◌++◌, drop, map, string_bytes}
use Rattle.dl_plans.specs.ReportText.{answers_text}
use Rattle.dl_plans.proofs.report.report_text.Given as goal

abbrev pub invariant-loop-plan : goal.invariant-loop-plan
invariant-loop-plan l = string_bytes l.out ++ answers_text l.plan (map (λ a. a.items) (drop l.plan l.answers-items)) ≡ answers_text 0 l.fn.report.answers
