-- The text is that of the key.
use Rattle.std.proofs.Common.{length}
use Rattle.dl_values.specs.Key.{Key}
use Rattle.dl_values.proofs.KeyTexts.{marked_is}
use Rattle.dl_values.proofs.ShortTexts.{stays_short}
use Rattle.dl_values.proofs.key.KeyText.read_short.Goals as goal

pub invariant_of-result : goal.invariant_of-result
invariant_of-result c =
    let key : Key = record { table = c.args.table.now; id = c.args.id.now } in
    let read = c.in_ok-text.ensures.some in
    rw read.0 (marked_is key read.1.first_is read.1.second_is c.requires.key, stays_short (length c.args.table.now) c.args.table.now c.args.id.now c.requires.room)
