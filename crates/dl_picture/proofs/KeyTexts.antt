-- Texts of keys.
use Rattle.std.proofs.Common.{◌≡◌, ◌∙◌, ap, subst, refl, false, List, [], ◌∷◌, map}
use Rattle.std.specs.Prelude.{ℕ, Result, Ok, Err, IfOk}
use Rattle.serde_json.specs.Data.{Data, array}
use Rattle.serde_json.specs.View.{items_of}
use Rattle.serde_json.specs.Written.{compact_text, has_float, items_have_float}
use Rattle.dl_values.specs.Key.{Key}
use Rattle.dl_documents.specs.Script.{key_tree}
use Rattle.dl_picture.specs.JsonText.{keys_text}

-- the tree of a list of keys has no float
keys_whole : (ks : List Key) → items_have_float (items_of (map key_tree ks)) ≡ false
keys_whole [] = refl
keys_whole (k ∷ ks) = keys_whole ks

-- the text of a list of keys, where it is that of their tree
pub keys_written : {X E : Type 0} (bytes : X → List ℕ) (ks : List Key) (d : Data) (result : Result X E) → d ≡ array (items_of (map key_tree ks))
    → IfOk result (λ s. has_float d ≡ false → bytes s ≡ compact_text d) → IfOk result (λ s. bytes s ≡ keys_text ks)
keys_written bytes ks d (Ok s) same written =
    subst (λ (e : Data). bytes s ≡ compact_text e) same (written (ap has_float same ∙ keys_whole ks))
keys_written bytes ks d (Err e) same written = tt
