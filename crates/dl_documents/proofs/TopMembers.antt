-- The members of a document, of which `tables` stands apart.
use Rattle.std.proofs.Common.{◌≡◌, ◌∙◌, refl, sym, ap, ℕ, List, Bool, false, ◌&&◌, ◌||◌, bytes_eq, codes, true≢false, Option, Some, None, option_map}
use Rattle.std.proofs.Common.{option_and_then}
use Rattle.std.proofs.lemmas.Slice.Eq.{bytes_eq-Decides}
use Rattle.std.specs.List.{list_all}
use Rattle.std.specs.Option.{is_none}
use Rattle.serde_json.proofs.Views.{get_member-put, get_member-put_other}
use Rattle.serde_json.specs.Data.{Data, Members, put}
use Rattle.serde_json.specs.Find.{get, get_member, as_array}
use Rattle.serde_json.specs.View.{view}
use Rattle.serde_json.specs.declared.value.Value.{Value}
use Rattle.dl_source.specs.Spelling.{names_all}
use Rattle.dl_documents.specs.Document.{items_at}
use Rattle.dl_documents.specs.Inside.Top.{with_tables, top_data}
use Rattle.dl_documents.specs.Inside.Trees.{object_data}
use Rattle.dl_documents.specs.declared.top.Top.{Top}
use Rattle.dl_documents.proofs.ObjectMembers.{Member, names_all-put, names_all-object_data}
use Rattle.dl_documents.proofs.PutLaws.{put_twice, put_swap}

-- ---- what is found

other_name : (name : List ℕ) → bytes_eq name (codes "tables") ≡ false → name ≡ codes "tables" → ⊥
other_name name differs same = true≢false (sym ((bytes_eq-Decides name (codes "tables")).1 same) ∙ differs)

beside : (tables : Option Value) (ms : Members) (name : List ℕ) → bytes_eq name (codes "tables") ≡ false
    → get_member name (with_tables tables ms) ≡ get_member name ms
beside None ms name differs = refl
beside (Some v) ms name differs = get_member-put_other name (codes "tables") (view v) ms (other_name name differs)

-- another name than `tables` is found among the other members
pub there : (t : Top) (name : List ℕ) → bytes_eq name (codes "tables") ≡ false → get name (top_data t) ≡ get_member name (object_data t.members.items)
there t name differs = beside t.tables (object_data t.members.items) name differs

pub list_there : (t : Top) (name : List ℕ) → bytes_eq name (codes "tables") ≡ false
    → items_at name (top_data t) ≡ option_and_then as_array (get_member name (object_data t.members.items))
list_there t name differs = ap (option_and_then as_array) (there t name differs)

-- `tables` is found where it stands apart
pub tables_there : (tables : Option Value) (ms : Members) → get_member (codes "tables") ms ≡ None
    → get_member (codes "tables") (with_tables tables ms) ≡ option_map view tables
tables_there None ms apart = apart
tables_there (Some v) ms apart = get_member-put (codes "tables") (view v) ms

-- ---- tests of the names

pub names_all-with_tables : (test : List ℕ → Bool) (tables : Option Value) (ms : List Member)
    → names_all test (with_tables tables (object_data ms)) ≡ ((is_none tables || test (codes "tables")) && list_all (λ m. test m.0.now) ms)
names_all-with_tables test None ms = names_all-object_data test ms
names_all-with_tables test (Some v) ms =
    names_all-put test (codes "tables") (view v) (object_data ms) ∙ ap (λ b. test (codes "tables") && b) (names_all-object_data test ms)

-- ---- members that are put in one after another

-- the last tables stay
pub with_new_tables : (tables : Option Value) (v : Value) (ms : Members) → put (codes "tables") (view v) (with_tables tables ms) ≡ with_tables (Some v) ms
with_new_tables None v ms = refl
with_new_tables (Some w) v ms = put_twice (codes "tables") (view v) (view w) ms

-- another member goes in beside them
pub with_member : (tables : Option Value) (k : List ℕ) (d : Data) (ms : Members) → bytes_eq k (codes "tables") ≡ false
    → put k d (with_tables tables ms) ≡ with_tables tables (put k d ms)
with_member None k d ms differs = refl
with_member (Some v) k d ms differs = put_swap k (codes "tables") d (view v) ms (other_name k differs)
