-- The batches so far were counted, and there are no fewer.
use Rattle.std.proofs.Common.{◌≤◌}
use Rattle.dl_desk.specs.Events.{atoms}
use Rattle.dl_desk.specs.History.{begun}
use Rattle.dl_history.specs.History.{past}
use Rattle.dl_plans.specs.Statistics.{AreAsked, first_counts, is_asked}
use Rattle.dl_plans.proofs.statistics.asked_batches.Given as goal

abbrev pub invariant-loop-number : goal.invariant-loop-number
invariant-loop-number l = record {
  low : l.number ≤ begun (atoms (past l.batches));
  asked : AreAsked (first_counts (is_asked l.names) (atoms (past l.batches)) l.number) l.asked;
}
