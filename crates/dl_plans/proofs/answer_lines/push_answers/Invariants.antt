-- The lines of the answers so far stand at the end.
use Rattle.std.proofs.Common.{◌≡◌, ◌++◌, flat_map, string_bytes, take}
use Rattle.dl_plans.specs.ReportText.{answer_line}
use Rattle.dl_plans.proofs.answer_lines.push_answers.Given as goal

abbrev pub invariant-loop-given : goal.invariant-loop-given
invariant-loop-given l = string_bytes l.out ≡ string_bytes l.fn.out ++ flat_map (answer_line l.plan) (take l.given-index l.answers)
