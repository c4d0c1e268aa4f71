-- Equal blocks are those of equal texts.
use Rattle.std.proofs.Common.{◌∙◌}
use Rattle.dl_values.proofs.ShortTexts.{same_blocks}
use Rattle.dl_values.proofs.short_text.ShortTextPartialEq.eq.Goals as goal

pub returns : goal.returns
returns c = rw (← c.self.view_is, ← c.other.view_is)
    (c.is_same_block.ensures ∙ same_blocks c.self.inside.bytes c.other.inside.bytes c.self.inside.len c.other.inside.len c.self.invariant c.other.invariant)
