-- The numbers are those of the answers so far.
use Rattle.std.proofs.Common.{take}
use Rattle.std.specs.Prelude.{flat_map}
use Rattle.dl_picture.specs.Numbers.{AreLoadNumbers}
use Rattle.dl_picture.specs.Script.{answer_replies}
use Rattle.dl_picture.proofs.loads.answer_numbers.Given as goal

abbrev pub invariant-loop-answer : goal.invariant-loop-answer
invariant-loop-answer l = AreLoadNumbers (flat_map answer_replies (take l.answer-index l.answers)) l.numbers
