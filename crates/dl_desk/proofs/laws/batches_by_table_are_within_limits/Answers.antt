use Rattle.dl_values.specs.Limits.{by_table}
use Rattle.dl_desk.proofs.LawBatches.{batches_are_within_limits, have_limits}
use Rattle.dl_desk.proofs.laws.batches_by_table_are_within_limits.Goals as goal

pub returns : goal.returns
returns c = batches_are_within_limits (by_table c.args.limits.now c.args.tables.now)
    (have_limits c.args.limits.now c.args.tables.now c.max_batch.ensures.limits c.keeps.ensures)
