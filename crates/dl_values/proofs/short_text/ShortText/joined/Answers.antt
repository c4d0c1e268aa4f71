use Rattle.std.proofs.Common.{◌≡◌, ◌+◌, ◌∷◌, ◌++◌, length, length-append, arith}
use Rattle.dl_values.specs.Inside.HashedText.{filled}
use Rattle.dl_values.specs.Inside.ShortText.{block_bytes}
use Rattle.dl_values.proofs.TextPairs.{text_of_pair}
use Rattle.dl_values.proofs.ShortTexts.{is_short, text_is}
use Rattle.dl_values.proofs.short_text.ShortText.joined.Goals as goal

block : (c : goal.After-block_of) → c.block_of.result ≡ filled block_bytes (c.args.mark ∷ (c.args.first.now ++ c.args.second.now))
block c = rw (c.as_bytes.ensures.value, c.as_bytes-2.ensures.value) at c.block_of.ensures

long : (c : goal.After-block_of) → 1 + length c.args.first.now + length c.args.second.now ≡ length (c.args.mark ∷ (c.args.first.now ++ c.args.second.now))
long c = omega (arith, length-append c.args.first.now c.args.second.now)

pub invariant_of-result : goal.invariant_of-result
invariant_of-result c = is_short c.block_of.result _ (c.args.mark ∷ (c.args.first.now ++ c.args.second.now)) (block c) (long c) c.requires.room
    (text_of_pair c.args.mark c.args.first.now c.args.second.now c.requires.mark (record { first_is = c.utf8.first; second_is = c.utf8.second }))

pub returns : goal.returns
returns c = text_is c.block_of.result _ block_bytes (c.args.mark ∷ (c.args.first.now ++ c.args.second.now)) (block c) (long c)
