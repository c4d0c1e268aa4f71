use Rattle.dl_picture.proofs.BatchCounts.{all_batches}
use Rattle.dl_picture.proofs.batches.desk_numbers.Goals as goal

pub returns-in-None : goal.returns-in-None
returns-in-None c = λ history stands.
    let held = c.loop-number.invariant history stands in
    all_batches history c.loop-number.number c.loop-number.numbers held.0 (c.in-None.ensures.none history stands) held.1
