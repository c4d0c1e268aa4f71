use Rattle.dl_values.specs.KeyTexts.{IsKeyText}
use Rattle.dl_c_values.specs.KeyLists.{front_key, key_width}
use Rattle.dl_c_values.specs.declared.codes.TheConstants.{BAD_KEY}
use Rattle.dl_c_values.proofs.Cuts.{CutTo}
use Rattle.dl_c_values.proofs.key_lists.keys_of.Given as goal

abbrev pub invariant-loop-key_lengths : goal.invariant-loop-key_lengths
invariant-loop-key_lengths l = CutTo key_width front_key IsKeyText BAD_KEY l.fn.texts l.lengths l.key_lengths-index l.keys.items l.rest
