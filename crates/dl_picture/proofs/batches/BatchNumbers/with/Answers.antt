use Rattle.dl_picture.proofs.BatchCounts.{size_more}
use Rattle.dl_picture.proofs.batches.BatchNumbers.with.Goals as goal

pub returns : goal.returns
returns c = λ sizes. size_more sizes c.args.size c.args.self _ c.in_ok-sum.ensures c.in_ok-sum-2.ensures c.max.ensures
