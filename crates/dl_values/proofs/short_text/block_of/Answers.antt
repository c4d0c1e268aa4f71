use Rattle.std.proofs.Common.{◌+◌, length, refl}
use Rattle.dl_values.proofs.ShortTexts.{block_is}
use Rattle.dl_values.proofs.short_text.block_of.Goals as goal

pub returns : goal.returns
returns c = rw (c.copy_from_slice.ensures.after, c.copy_from_slice-2.ensures.after)
    (block_is c.args.mark c.args.first.now c.args.second.now (1 + length c.args.first.now) (1 + length c.args.first.now + length c.args.second.now) refl refl c.requires)
