-- The loads of the events so far were counted.
use Rattle.std.proofs.Common.{◌≡◌, take}
use Rattle.dl_plans.specs.Statistics.{asked_loads, is_asked}
use Rattle.dl_plans.proofs.statistics.asked_loads.Given as goal

abbrev pub invariant-loop-at : goal.invariant-loop-at
invariant-loop-at l = l.loads ≡ asked_loads (is_asked l.names) (take l.at l.events)
