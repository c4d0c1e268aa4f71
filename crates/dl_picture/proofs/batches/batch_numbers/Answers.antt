use Rattle.dl_desk.specs.Events.{atoms}
use Rattle.dl_history.specs.History.{past}
use Rattle.dl_picture.proofs.BatchCounts.{all_batches}
use Rattle.dl_picture.proofs.batches.batch_numbers.Goals as goal

pub returns-in-None : goal.returns-in-None
returns-in-None c =
    all_batches (atoms (past c.args.batches.now)) c.loop-number.number c.loop-number.numbers c.loop-number.invariant.low c.in-None.ensures.none c.loop-number.invariant.sizes
