use Rattle.dl_desk.proofs.LawBatches.{batches_are_within_limits}
use Rattle.dl_desk.proofs.laws.batches_are_within_limits.Goals as goal

pub returns : goal.returns
returns c = batches_are_within_limits
