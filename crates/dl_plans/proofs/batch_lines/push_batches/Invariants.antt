-- The lines of the batches so far stand at the end, and there are no fewer batches.
use Rattle.std.proofs.Common.{◌≡◌, ◌≤◌, ◌++◌, string_bytes}
use Rattle.dl_desk.specs.Events.{atoms}
use Rattle.dl_desk.specs.History.{begun}
use Rattle.dl_history.specs.History.{past}
use Rattle.dl_plans.specs.ReportText.{batch_lines}
use Rattle.dl_plans.proofs.batch_lines.push_batches.Given as goal

abbrev pub invariant-loop-number : goal.invariant-loop-number
invariant-loop-number l = record {
  low : l.number ≤ begun (atoms (past l.batches));
  lines : string_bytes l.out ≡ string_bytes l.fn.out ++ batch_lines (atoms (past l.batches)) l.number;
}
