-- The two texts of a key as one: the key is told by it, and it tells the same keys apart.
use Rattle.std.proofs.Common.{◌≡◌, ◌∙◌, sym, ap, subst, true, [], ◌∷◌, ◌++◌, length, refl}
use Rattle.std.specs.Bool.{Decides}
use Rattle.std.specs.Str.{IsCharBoundary, IsUtf8, bytes_eq}
use Rattle.std.proofs.Math.Seq.{take-append_seam, drop-append_seam}
use Rattle.std.proofs.lemmas.Bool.Decides.{same_from_decides}
use Rattle.std.proofs.lemmas.Slice.Eq.{bytes_eq-Decides}
use Rattle.std.proofs.lemmas.Str.{IsCharBoundary-at_seam, IsUtf8-append}
use Rattle.dl_values.specs.Key.{Key, IsKey, key_eq}
use Rattle.dl_values.specs.Inside.KeyText.{marked, unmarked, IsMarked}
use Rattle.dl_values.proofs.KeyLemmas.{key_eq-refl, key_eq-same}

-- the text of a key tells it
pub unmarked_marked : (k : Key) → unmarked (marked k) ≡ k
unmarked_marked k i = record { table = take-append_seam k.table k.id i; id = drop-append_seam k.table k.id i }

pub marked_is : (k : Key) → IsUtf8 k.table → IsUtf8 k.id → IsKey k → IsMarked (marked k)
marked_is k table id is = record {
  own = ap marked (unmarked_marked k);
  mark = IsCharBoundary-at_seam (marked k) (length k.table ∷ []) (k.table ++ k.id) refl (IsUtf8-append k.table k.id table id);
  seam = subst (λ (q : Key). IsCharBoundary (k.table ++ k.id) (length q.table)) (sym (unmarked_marked k))
      (IsCharBoundary-at_seam (k.table ++ k.id) k.table k.id refl id);
  key = subst IsKey (sym (unmarked_marked k)) is;
}

marked_eq-same : (j k : Key) → bytes_eq (marked j) (marked k) ≡ true → j ≡ k
marked_eq-same j k e = sym (unmarked_marked j) ∙ (ap unmarked ((bytes_eq-Decides (marked j) (marked k)).0 e) ∙ unmarked_marked k)

marked_eq-Decides : (j k : Key) → Decides (bytes_eq (marked j) (marked k)) (j ≡ k)
marked_eq-Decides j k = (marked_eq-same j k, λ e. rw e ((bytes_eq-Decides (marked k) (marked k)).1 refl))

-- two texts are those of one key exactly if the keys are equal
pub marked_eq-is : (j k : Key) → bytes_eq (marked j) (marked k) ≡ key_eq j k
marked_eq-is j k = same_from_decides (bytes_eq (marked j) (marked k)) (key_eq j k) (marked_eq-Decides j k) (key_eq-same j k, λ e. rw e (key_eq-refl k))
