-- A document has no member that its kind doesn't have.
use Rattle.std.proofs.Common.{◌≡◌, ℕ, List, Bool, true, false, codes, Option, Some, None, refl, sym, ap, ◌∙◌, true≢false}
use Rattle.std.specs.Option.{option_and_then}
use Rattle.std.proofs.Common.{Ordering, Less, Equal, Greater}
use Rattle.std.specs.Ordering.{nat_cmp, match_ordering, is_eq}
use Rattle.std.specs.Cmp.Lexicographic.{slice_cmp}
use Rattle.std.proofs.lemmas.Option.{none-some}
use Rattle.std.proofs.lemmas.Map.Text.{is_eq-slice_cmp}
use Rattle.std.proofs.lemmas.Slice.Eq.{bytes_eq-Decides}
use Rattle.serde_json.specs.Data.{Data, null, boolean, number, string, array, object, Members, no_members, member, Items}
use Rattle.serde_json.specs.Find.{get, get_member, as_array}
use Rattle.dl_source.specs.Spelling.{names_all, has_only}
use Rattle.dl_documents.specs.Document.{is_script, is_known, has_only_known, items_at}
use Rattle.dl_documents.specs.declared.head.Version.{Version}
use Rattle.dl_documents.specs.declared.head.Version.TheVariants.{First, Second}
use Rattle.dl_documents.proofs.Findings.{both_true}

at_order : (name : List ℕ) (d : Data) (ms : Members) (o : Ordering) → (is_eq o ≡ true → ⊥) → get_member name ms ≡ None
    → match_ordering o (get_member name ms) (Some d) (get_member name ms) ≡ None
at_order name d ms Less other rest = rest
at_order name d ms Equal other rest = absurd (other refl)
at_order name d ms Greater other rest = rest

member_absent : (test : List ℕ → Bool) (name : List ℕ) (ms : Members) → names_all test ms ≡ true → test name ≡ false → get_member name ms ≡ None
member_absent test name no_members all is = refl
member_absent test name (member other d ms) all is =
    let p = both_true (test other) (names_all test ms) all in
    at_order name d ms (slice_cmp nat_cmp name other)
    (λ equal. let same : name ≡ other = (bytes_eq-Decides name other).0 (sym (is_eq-slice_cmp name other) ∙ equal) in
    true≢false (sym p.0 ∙ (ap test (sym same) ∙ is)))
    (member_absent test name ms p.1 is)

-- an object whose names pass a test has no member whose name doesn't
pub absent : (test : List ℕ → Bool) (name : List ℕ) (d : Data) → has_only test d ≡ true → test name ≡ false → get name d ≡ None
absent test name null all is = refl
absent test name (boolean b) all is = refl
absent test name (number n) all is = refl
absent test name (string s) all is = refl
absent test name (array ds) all is = refl
absent test name (object ms) all is = member_absent test name ms all is

module _ (d : Data) (kind : Bool) (v : Version) (name : List ℕ) (is : is_script d ≡ kind) (all : has_only_known v d ≡ true)
    (other : is_known kind v name ≡ false) where
  -- a name that isn't known to the kind and the version
  pub unknown : get name d ≡ None
  unknown = absent (is_known (is_script d) v) name d all (ap (λ (b : Bool). is_known b v name) is ∙ other)

  -- and no list is found under it
  pub no_list : (ds : Items) → items_at name d ≡ Some ds → ⊥
  no_list ds there =
      let none : items_at name d ≡ None = ap (λ (o : Option Data). option_and_then as_array o) unknown in
      none-some ds (sym none ∙ there)

-- ---- names that a script of neither version knows

pub no_plans : (v : Version) → is_known true v (codes "plans") ≡ false
no_plans First = refl
no_plans Second = refl

pub no_tables : (v : Version) → is_known true v (codes "tables") ≡ false
no_tables First = refl
no_tables Second = refl
