use Rattle.std.proofs.Common.{◌≡◌, map, take, length}
use Rattle.dl_c_values.specs.Answers.{loaded_as}
use Rattle.dl_c.proofs.many.write.Given as goal

abbrev pub invariant-loop-place : goal.invariant-loop-place
invariant-loop-place l = (take l.place l.answers ≡ map loaded_as (take l.place l.replies)) × (length l.answers ≡ length l.fn.answers)
