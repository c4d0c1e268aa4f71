use Rattle.std.proofs.Common.{◌≡◌, ℕ, List, Bool, true, false, not, true≢false, Result, Ok, Err, OnOk, refl, sym, ◌∙◌}
use Rattle.std.proofs.lemmas.Slice.Eq.{bytes_eq-Decides}
use Rattle.std.specs.Prelude.{bytes_eq}
use Rattle.dl_sqlite.proofs.file.read_agreed.Goals as goal

holds_on_ok : {T E P : Type 0} (r : Result T E) → P → OnOk r P
holds_on_ok (Ok x) p = p
holds_on_ok (Err e) p = tt

yes_if_not_no : (b : Bool) → not b ≡ false → b ≡ true
yes_if_not_no true h = refl
yes_if_not_no false h = absurd (true≢false h)

same : (xs ys : List ℕ) (differ : Bool) → differ ≡ not (bytes_eq xs ys) → differ ≡ false → xs ≡ ys
same xs ys differ is agrees = (bytes_eq-Decides xs ys).0 (yes_if_not_no (bytes_eq xs ys) (sym is ∙ agrees))

pub returns-clause-agree : goal.returns-clause-agree
returns-clause-agree c =
    holds_on_ok c.read_image.result (same _ _ c.ne.result c.ne.ensures c.if-ne.false, same _ _ c.ne-else-ne.result c.ne-else-ne.ensures c.if-ne-2.false)
