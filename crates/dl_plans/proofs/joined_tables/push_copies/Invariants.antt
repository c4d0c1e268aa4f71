-- The copies so far come behind what was there.
use Rattle.std.proofs.Common.{◌≡◌, ◌++◌, take}
use Rattle.dl_plans.proofs.joined_tables.push_copies.Given as goal

abbrev pub invariant-loop-outcome : goal.invariant-loop-outcome
invariant-loop-outcome l = l.outcomes.items ≡ l.initial.outcomes.items ++ take l.outcome-index l.more
