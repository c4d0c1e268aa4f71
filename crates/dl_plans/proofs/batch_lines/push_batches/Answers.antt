use Rattle.std.proofs.Common.{string_bytes, arith}
use Rattle.dl_desk.specs.Events.{atoms}
use Rattle.dl_history.specs.History.{past}
use Rattle.dl_plans.proofs.BatchTexts.{batch_more}
use Rattle.dl_plans.proofs.batch_lines.push_batches.Goals as goal

pub loop-number-preserved : goal.loop-number-preserved
loop-number-preserved c = record {
  low = omega (arith, c.in-Some.ensures.begun);
  lines = batch_more (atoms (past c.args.batches.now)) c.loop-number.number c.in-Some.batch.keys c.in-Some.batch.end (string_bytes c.args.out.now)
      (string_bytes c.loop-number.out) (string_bytes c.push_batch.new.out) c.in-Some.ensures.keys c.in-Some.ensures.end c.loop-number.invariant.lines
      c.in_ok-push_batch-in-Some.ensures;
}
