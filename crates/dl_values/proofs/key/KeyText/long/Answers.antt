-- The text is that of the key.
use Rattle.std.proofs.Common.{length}
use Rattle.dl_values.specs.Key.{Key}
use Rattle.dl_values.proofs.KeyTexts.{marked_is}
use Rattle.dl_values.proofs.ShortTexts.{stays_long}
use Rattle.dl_values.proofs.key.KeyText.long.Goals as goal

pub invariant_of-result : goal.invariant_of-result
invariant_of-result c =
    let key : Key = record { table = c.args.table.now; id = c.args.id.now } in
    rw c.in_ok-text.ensures (marked_is key c.utf8.table c.utf8.id c.requires.key, stays_long (length c.args.table.now) c.args.table.now c.args.id.now c.requires.long)
