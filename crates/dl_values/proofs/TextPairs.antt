-- Bytes that are a mark and two pieces are a text that may be cut between the pieces exactly if the pieces are texts.
use Rattle.std.proofs.Common.{◌≡◌, ℕ, zero, suc, ◌+◌, ◌<◌, ◌≤◌, List, [], ◌∷◌, ◌++◌, length, get_or, refl, sym, subst, arith}
use Rattle.std.specs.Str.{IsUtf8, IsAscii, IsCharBoundary}
use Rattle.std.proofs.Math.Seq.{take-append_seam, drop-append_seam}
use Rattle.std.proofs.lemmas.Str.{IsUtf8-append, IsUtf8-take, IsUtf8-drop, IsUtf8-from_ascii, IsCharBoundary-at_seam, IsCharBoundary-after_ascii, IsCharBoundary-from_ascii}
use Rattle.dl_values.specs.KeyTexts.{AreTexts}

mark_is_text : (mark : ℕ) → mark < 128 → IsUtf8 (mark ∷ [])
mark_is_text mark ascii = IsUtf8-from_ascii (mark ∷ []) (at mark ascii)
  where
    at : (mark : ℕ) → mark < 128 → (i : ℕ) → get_or (mark ∷ []) i 0 < 128
    at mark ascii zero = ascii
    at mark ascii (suc i) = omega arith

module _ (mark : ℕ) (first second : List ℕ) (ascii : mark < 128) where
  abbrev whole : List ℕ
  whole = mark ∷ (first ++ second)

  seam : length (mark ∷ first) ≡ 1 + length first
  seam = omega arith

  pub text_of_pair : AreTexts first second → IsUtf8 whole
  text_of_pair are = IsUtf8-append (mark ∷ []) (first ++ second) (mark_is_text mark ascii) (IsUtf8-append first second are.first_is are.second_is)

  pub seam_of_pair : AreTexts first second → IsCharBoundary whole (1 + length first)
  seam_of_pair are = subst (IsCharBoundary whole) seam (IsCharBoundary-at_seam whole (mark ∷ first) second refl are.second_is)

  pub pair_of_text : IsUtf8 whole → IsCharBoundary whole (1 + length first) → AreTexts first second
  pair_of_text text cut =
      let at : IsCharBoundary whole (length (mark ∷ first)) = subst (IsCharBoundary whole) (sym seam) cut in
      let front : IsUtf8 (mark ∷ first) = subst IsUtf8 (take-append_seam (mark ∷ first) second) (IsUtf8-take whole (length (mark ∷ first)) text at) in
      record {
        first_is = IsUtf8-drop (mark ∷ first) 1 front (IsCharBoundary-after_ascii (mark ∷ first) 0 front (omega arith) ascii);
        second_is = subst IsUtf8 (drop-append_seam (mark ∷ first) second) (IsUtf8-drop whole (length (mark ∷ first)) text at);
      }

-- ASCII is a text that may be cut anywhere
pub cut_of_ascii : (bytes : List ℕ) (seam : ℕ) → IsAscii bytes → seam ≤ length bytes → IsUtf8 bytes × IsCharBoundary bytes seam
cut_of_ascii bytes seam ascii fits = (IsUtf8-from_ascii bytes ascii, IsCharBoundary-from_ascii bytes seam ascii fits)
