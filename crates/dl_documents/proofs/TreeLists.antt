-- A list of trees, as the list of their data.
use Rattle.std.proofs.Common.{◌≡◌, ◌∙◌, refl, ap, ℕ, suc, List, [], ◌∷◌, length, map, Global, Ordering, Less, Equal, Greater}
use Rattle.std.specs.BTreeMap.{insert_entry}
use Rattle.std.specs.Cmp.Lexicographic.{slice_cmp}
use Rattle.std.specs.Ordering.{nat_cmp, match_ordering}
use Rattle.std.specs.Prelude.{slice_get}
use Rattle.json.specs.declared.value.Value.{Value}
use Rattle.serde_json.specs.Data.{item, member, put}
use Rattle.serde_json.specs.Events.{items_len}
use Rattle.serde_json.specs.Find.{get_item}
use Rattle.serde_json.specs.View.{items_of}
use Rattle.dl_documents.specs.Inside.Trees.{tree_data, list_data, entries_data}
use Rattle.dl_documents.specs.TermReading.{names_of, values_of}
use Rattle.dl_documents.proofs.ListSpelling.{get_item-items_of}

pub list_data_is : (vs : List (Value Global)) → list_data vs ≡ items_of (map tree_data vs)
list_data_is [] = refl
list_data_is (v ∷ vs) = ap (item (tree_data v)) (list_data_is vs)

pub items_len-list_data : (vs : List (Value Global)) → items_len (list_data vs) ≡ length vs
items_len-list_data [] = refl
items_len-list_data (v ∷ vs) = ap suc (items_len-list_data vs)

pub get_item-list_data : (vs : List (Value Global)) (n : ℕ) → get_item n (list_data vs) ≡ slice_get (map tree_data vs) n
get_item-list_data vs n = ap (get_item n) (list_data_is vs) ∙ get_item-items_of (map tree_data vs) n

-- ---- members in order

entries-order : (o : Ordering) (a b c : List (List ℕ × Value Global))
    → entries_data (match_ordering o a b c) ≡ match_ordering o (entries_data a) (entries_data b) (entries_data c)
entries-order Less a b c = refl
entries-order Equal a b c = refl
entries-order Greater a b c = refl

-- a value goes in under its name
pub entries-insert : (es : List (List ℕ × Value Global)) (k : List ℕ) (v : Value Global)
    → entries_data (insert_entry (slice_cmp nat_cmp) es k v) ≡ put k (tree_data v) (entries_data es)
entries-insert [] k v = refl
entries-insert (e ∷ es) k v =
    entries-order (slice_cmp nat_cmp k e.0) _ _ _
    ∙ ap (λ ms. match_ordering (slice_cmp nat_cmp k e.0) (member k (tree_data v) (entries_data (e ∷ es))) (member e.0 (tree_data v) (entries_data es))
    (member e.0 (tree_data e.1) ms)) (entries-insert es k v)

pub entries-names : (es : List (List ℕ × Value Global)) → map (λ e. e.0) es ≡ names_of (entries_data es)
entries-names [] = refl
entries-names (e ∷ es) = ap (λ ns. e.0 ∷ ns) (entries-names es)

pub entries-values : (es : List (List ℕ × Value Global)) → list_data (map (λ e. e.1) es) ≡ values_of (entries_data es)
entries-values [] = refl
entries-values (e ∷ es) = ap (λ ds. item (tree_data e.1) ds) (entries-values es)
