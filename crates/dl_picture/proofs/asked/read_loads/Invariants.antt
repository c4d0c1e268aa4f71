-- The loads left give the rest of what all loads give.
use Rattle.std.proofs.Common.{◌≡◌, drop}
use Rattle.dl_picture.specs.TermLoads.{with_loads}
use Rattle.dl_picture.proofs.asked.read_loads.Given as goal

abbrev pub invariant-loop-place : goal.invariant-loop-place
invariant-loop-place l = with_loads l.cells.entries (drop l.place l.keys) (drop l.place l.replies) ≡ with_loads l.initial.cells.entries l.keys l.replies
