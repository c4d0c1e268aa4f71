use Rattle.std.proofs.Common.{◌≡◌, take}
use Rattle.std.specs.Map.{lookup}
use Rattle.dl_values.specs.Key.{Key, key_eq}
use Rattle.dl_desk.specs.Inside.Preparation.{without}
use Rattle.dl_desk.proofs.memo_and_batches.forget.Given as goal

abbrev pub invariant-loop-place : goal.invariant-loop-place
invariant-loop-place l = (k : Key) → lookup (key_eq k) l.memo.entries ≡ without (take l.place l.batch.members) k (lookup (key_eq k) l.fn.memo.entries)
