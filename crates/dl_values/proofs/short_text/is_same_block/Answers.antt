-- Blocks are the same if their words are.
use Rattle.std.proofs.Common.{◌∙◌}
use Rattle.std.specs.Prelude.{◌&&◌}
use Rattle.dl_values.proofs.ShortTexts.{same_words}
use Rattle.dl_values.proofs.short_text.is_same_block.Goals as goal

pub returns : goal.returns
returns c =
    (λ i. c.is_same_word.ensures i && c.is_same_word-2.ensures i && c.is_same_word-3.ensures i && c.is_same_word-4.ensures i && c.is_same_word-5.ensures i)
    ∙ same_words c.args.a.now c.args.b.now c.told-a c.told-b
