-- A document is of one version.
use Rattle.std.proofs.Common.{◌≡◌, ◌∙◌, refl, sym, ap, inl, inr, arith, ℕ, ℤ, pos, negsuc}
use Rattle.std.proofs.lemmas.Option.{same_Some}
use Rattle.serde_json.specs.Data.{Data}
use Rattle.dl_documents.specs.Document.{IsOfVersion}
use Rattle.dl_documents.specs.declared.head.Version.{Version}
use Rattle.dl_documents.specs.declared.head.Version.TheVariants.{First, Second}

abbrev size : ℤ → ℕ
size (pos n) = n
size (negsuc n) = 0

one_is_not_two : pos 1 ≡ pos 2 → ⊥
one_is_not_two e = let same : size (pos 1) ≡ size (pos 2) = ap size e in omega arith

one_is_not_three : pos 1 ≡ pos 3 → ⊥
one_is_not_three e = let same : size (pos 1) ≡ size (pos 3) = ap size e in omega arith

apart : (d : Data) → IsOfVersion d First → IsOfVersion d Second → ⊥
apart d a (inl b) = one_is_not_two (same_Some (pos 1) (pos 2) (sym a ∙ b))
apart d a (inr b) = one_is_not_three (same_Some (pos 1) (pos 3) (sym a ∙ b.1))

pub one_version : (d : Data) (v w : Version) → IsOfVersion d v → IsOfVersion d w → v ≡ w
one_version d First First a b = refl
one_version d Second Second a b = refl
one_version d First Second a b = absurd (apart d a b)
one_version d Second First a b = absurd (apart d b a)
