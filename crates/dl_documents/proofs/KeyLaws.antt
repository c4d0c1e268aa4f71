-- A key has one tree: what is found in a tree is what the tree spells, and is found again.
use Rattle.std.proofs.Common.{◌≡◌, refl, ap, ◌∙◌, ℕ, ◌&&◌, List, [], ◌∷◌, map, Some}
use Rattle.std.specs.List.{AllByRecursion}
use Rattle.serde_json.specs.Data.{Data, string, array, Items, no_items, item}
use Rattle.serde_json.specs.Find.{as_str, as_array}
use Rattle.serde_json.specs.View.{items_of}
use Rattle.dl_values.specs.Key.{Key, IsKey, table_bytes, id_bytes}
use Rattle.dl_source.proofs.Spelling.{array_of, string_of}
use Rattle.dl_source.specs.Faults.{is_sized}
use Rattle.dl_terms.proofs.Options.{from_and_then, from_both}
use Rattle.dl_documents.proofs.Findings.{Spelled, both_true, sized, sized_again, kept, from_zip, two_found}
use Rattle.dl_documents.specs.Script.{key_tree}
use Rattle.dl_documents.specs.Terms.{two}
use Rattle.dl_documents.specs.Reading.{two_in, texts_of, texts_in, keyed, key_in, keys_listed, keys_in}

texts_is : (d : Data) (p : List ℕ × List ℕ) → texts_in d ≡ Some p → d ≡ two (string p.0) (string p.1)
texts_is d p h =
    let q = from_and_then texts_of (two_in d) p h in
    let items : Data × Data = q.0 in
    let texts = from_zip (as_str items.0) (as_str items.1) p q.2 in
    two_found d items q.1 ∙ (ap (λ x. two x items.1) (string_of items.0 p.0 texts.0) ∙ ap (two (string p.0)) (string_of items.1 p.1 texts.1))

keyed_is : (t i : List ℕ) (x : Key) → keyed (t, i) ≡ Some x → Spelled key_tree IsKey (two (string t) (string i)) x
keyed_is t i x h =
    let p = kept (is_sized table_bytes t && is_sized id_bytes i) (record { table = t; id = i }) x h in
    let q = both_true (is_sized table_bytes t) (is_sized id_bytes i) p.0 in
    let a = sized table_bytes t q.0 in
    let b = sized id_bytes i q.1 in
    let is : IsKey (record { table = t; id = i }) = record { some_table = a.0; short_table = a.1; some_id = b.0; short_id = b.1 } in
    rw (← p.1) (record { tree = refl; is = is })

-- the key that is found in a tree is spelled by it
pub key_is : (d : Data) (x : Key) → key_in d ≡ Some x → Spelled key_tree IsKey d x
key_is d x h =
    let q = from_and_then keyed (texts_in d) x h in
    let texts : List ℕ × List ℕ = q.0 in
    rw (texts_is d texts q.1) (keyed_is texts.0 texts.1 x q.2)

-- and a key is found in its tree
pub key_again : (k : Key) → IsKey k → key_in (key_tree k) ≡ Some k
key_again k h = rw (sized_again table_bytes k.table h.some_table h.short_table, sized_again id_bytes k.id h.some_id h.short_id) refl

no_key : (x : Key) (xs : List Key) → [] ≡ x ∷ xs → ⊥
no_key x xs h = cc

keys_listed_is : (ds : Items) (xs : List Key) → keys_listed ds ≡ Some xs → (ds ≡ items_of (map key_tree xs)) × AllByRecursion IsKey xs
keys_listed_is no_items [] h = (refl, tt)
keys_listed_is no_items (x ∷ xs) h = let e : [] ≡ x ∷ xs = cc in absurd (no_key x xs e)
keys_listed_is (item d ds) xs h =
    let p = from_both (key_in d) (keys_listed ds) xs h in
    let a = key_is d p.0 p.2 in
    let b = keys_listed_is ds p.1 p.3 in
    rw p.4 (ap (λ x. item x ds) a.tree ∙ ap (item (key_tree p.0)) b.0, (a.is, b.1))

-- a list of keys
abbrev pub keys_tree : List Key → Data
keys_tree ks = array (items_of (map key_tree ks))

-- the keys that are found in a tree are spelled by it
pub keys_is : (d : Data) (xs : List Key) → keys_in d ≡ Some xs → Spelled keys_tree (AllByRecursion IsKey) d xs
keys_is d xs h =
    let q = from_and_then keys_listed (as_array d) xs h in
    let p = keys_listed_is q.0 xs q.2 in
    record { tree = array_of d q.0 q.1 ∙ ap array p.0; is = p.1 }

-- and keys are found in their tree
pub keys_again : (ks : List Key) → AllByRecursion IsKey ks → keys_in (keys_tree ks) ≡ Some ks
keys_again [] h = refl
keys_again (k ∷ ks) h = rw (key_again k h.0, keys_again ks h.1) refl
