use Rattle.std.proofs.Common.{◌≡◌, take}
use Rattle.dl_desk.proofs.batch.index_keys.Given as goal

abbrev pub invariant-loop-place : goal.invariant-loop-place
invariant-loop-place l = l.index.keys ≡ take l.place l.keys
