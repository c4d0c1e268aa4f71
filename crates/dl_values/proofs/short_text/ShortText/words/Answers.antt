use Rattle.dl_values.proofs.ShortTexts.{words_are}
use Rattle.dl_values.proofs.short_text.ShortText.words.Goals as goal

pub returns : goal.returns
returns c = rw (← c.self.view_is) (words_are c.self.inside.bytes c.self.inside.len c.self.invariant)
