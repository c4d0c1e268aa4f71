-- Each of the keys so far has its outcome.
use Rattle.std.proofs.Common.{◌≡◌, take}
use Rattle.dl_bench.specs.Alike.{outcomes_alike}
use Rattle.dl_bench.proofs.alike.AlikeSource.fetch.Given as goal

abbrev pub invariant-loop-key : goal.invariant-loop-key
invariant-loop-key l = l.outcomes.items ≡ outcomes_alike l.self (take l._key-index l.keys)
