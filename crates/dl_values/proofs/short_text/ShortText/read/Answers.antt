use Rattle.std.proofs.Common.{◌≡◌, ℕ, ◌+◌, List, ◌∷◌, ◌++◌, length, take, sym, ◌∙◌, subst, length-append, arith}
use Rattle.std.specs.Str.{IsUtf8, IsCharBoundary}
use Rattle.std.proofs.lemmas.Bool.{false≢true}
use Rattle.dl_values.specs.Inside.ShortText.{block_bytes}
use Rattle.dl_values.specs.KeyTexts.{AreTexts}
use Rattle.dl_values.proofs.TextPairs.{text_of_pair, seam_of_pair, pair_of_text}
use Rattle.dl_values.proofs.ShortTexts.{is_short, text_is}
use Rattle.dl_values.proofs.short_text.ShortText.read.Goals as goal

front : (c : goal.Then-is_cut) → take (1 + length c.args.first.now + length c.args.second.now) c.block_of-bytes.result ≡ c.args.mark ∷ (c.args.first.now ++ c.args.second.now)
front c = text_is c.block_of-bytes.result _ block_bytes _ c.block_of-bytes.ensures (omega (arith, length-append c.args.first.now c.args.second.now))

texts : (c : goal.Then-is_cut) → AreTexts c.args.first.now c.args.second.now
texts c =
    let cut = c.is_cut.ensures.0 c.if-is_cut.true in
    pair_of_text c.args.mark c.args.first.now c.args.second.now c.requires.mark (subst IsUtf8 (front c) cut.0)
    (subst (λ (bytes : List ℕ). IsCharBoundary bytes (1 + length c.args.first.now)) (front c) cut.1)

pub invariant_of-result : goal.invariant_of-result
invariant_of-result c = is_short c.block_of-bytes.result _ (c.args.mark ∷ (c.args.first.now ++ c.args.second.now)) c.block_of-bytes.ensures
    (omega (arith, length-append c.args.first.now c.args.second.now)) c.requires.room (text_of_pair c.args.mark c.args.first.now c.args.second.now c.requires.mark (texts c))

pub returns-then-is_cut-clause-some : goal.returns-then-is_cut-clause-some
returns-then-is_cut-clause-some c = (front c, texts c)

pub returns-else-is_cut-clause-none : goal.returns-else-is_cut-clause-none
returns-else-is_cut-clause-none c are =
    let same : take (1 + length c.args.first.now + length c.args.second.now) c.block_of-bytes.result ≡ c.args.mark ∷ (c.args.first.now ++ c.args.second.now) =
    text_is c.block_of-bytes.result _ block_bytes _ c.block_of-bytes.ensures (omega (arith, length-append c.args.first.now c.args.second.now)) in
    false≢true (sym c.if-is_cut.false ∙ c.is_cut.ensures.1 (
      subst IsUtf8 (sym same) (text_of_pair c.args.mark c.args.first.now c.args.second.now c.requires.mark are),
      subst (λ (bytes : List ℕ). IsCharBoundary bytes (1 + length c.args.first.now)) (sym same)
          (seam_of_pair c.args.mark c.args.first.now c.args.second.now c.requires.mark are),
    ))
