use Rattle.std.proofs.Common.{◌≡◌, ◌-◌, take, length}
use Rattle.dl_loader_c.specs.Answers.{tickets_as}
use Rattle.dl_loader_c.proofs.many.write.Given as goal

abbrev pub invariant-loop-place : goal.invariant-loop-place
invariant-loop-place l =
    (take l.place l.answers ≡ tickets_as (l.fn.tickets - length l.replies) (take l.place l.replies)) × (length l.answers ≡ length l.fn.answers)
