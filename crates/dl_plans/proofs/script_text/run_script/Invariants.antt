-- The lines of the answers so far are written.
use Rattle.std.proofs.Common.{◌≡◌, flat_map, string_bytes, take}
use Rattle.dl_plans.specs.ScriptText.{call_lines}
use Rattle.dl_plans.proofs.script_text.run_script.Given as goal

abbrev pub invariant-loop-answer : goal.invariant-loop-answer
invariant-loop-answer l = string_bytes l.out ≡ flat_map call_lines (take l.answer-index l.answer-items)
