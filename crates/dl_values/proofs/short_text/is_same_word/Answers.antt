-- Eight bytes are told by their number.
use Rattle.std.proofs.Common.{◌∙◌}
use Rattle.std.specs.Prelude.{nat_eq}
use Rattle.dl_values.proofs.ShortTexts.{same_word}
use Rattle.dl_values.proofs.short_text.is_same_word.Goals as goal

pub returns : goal.returns
returns c = (λ i. nat_eq (c.word_of.ensures i) (c.word_of-2.ensures i))
    ∙ same_word c.args.a.now c.args.b.now c.requires.first c.requires.second (λ i. (c.type_inv.a i).fits) (λ i. (c.type_inv.b i).fits)
