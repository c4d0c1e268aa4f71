-- The keys so far were counted.
use Rattle.std.proofs.Common.{◌≡◌, ◌≤◌, take}
use Rattle.std.specs.Prelude.{count_by}
use Rattle.dl_plans.specs.Statistics.{is_asked}
use Rattle.dl_plans.proofs.statistics.asked_keys.Given as goal

abbrev pub invariant-loop-key : goal.invariant-loop-key
invariant-loop-key l = record {
  few : l.count ≤ l.key-index;
  counted : l.count ≡ count_by (is_asked l.names) (take l.key-index l.keys);
}
