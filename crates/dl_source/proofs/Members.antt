-- The members of objects, which lists are pairs, and what a table is without one of its parts.
use Rattle.std.proofs.Common.{◌≡◌, ◌≢◌, ℕ, ℤ, List, [], ◌∷◌, ◌++◌, Bool, true, false, ◌&&◌, Option, Some, None, length, ap, sym, ◌∙◌, refl, String, string_bytes, map}
use Rattle.std.proofs.Common.{bytes_eq, nat_cmp, cond, option_map, option_and_then, if◌then◌else◌, arith, length-append, true≢false}
use Rattle.std.specs.declared.alloc.Global.{Global}
use Rattle.std.specs.BTreeMap.{is_at}
use Rattle.std.specs.Cmp.Lexicographic.{slice_cmp}
use Rattle.std.specs.List.{list_all}
use Rattle.std.specs.Map.{remove_entry}
use Rattle.std.specs.Ordering.{match_ordering}
use Rattle.std.proofs.lemmas.Map.Text.{is_eq-slice_cmp}
use Rattle.std.proofs.lemmas.Slice.Eq.{bytes_eq-Decides}
use Rattle.serde_json.specs.Data.{Data, null, boolean, number, string, array, object, Members}
use Rattle.serde_json.specs.Find.{get_member, as_str, as_object}
use Rattle.serde_json.specs.View.{view, items_view, members_view}
use Rattle.serde_json.specs.declared.value.Value.{Value}
use Rattle.serde_json.proofs.Views.{member_later}
use Rattle.dl_source.specs.declared.tables.Finding.{Finding}
use Rattle.dl_source.specs.NumberedTables.{NumberedTable, numbered}
use Rattle.dl_source.specs.Tables.{Table}
use Rattle.dl_source.specs.Spelling.{names_all}
use Rattle.dl_source.specs.Inside.Reading.{pair_in}

-- a test of the names sees the keys of the map
pub names_all-members_view : (test : List ℕ → Bool) (es : List (String Global × Value))
    → names_all test (members_view es) ≡ list_all (λ k. test (string_bytes k)) (map (λ e. e.0) es)
names_all-members_view test [] = refl
names_all-members_view test (e ∷ es) = ap (λ b. test (string_bytes e.0) && b) (names_all-members_view test es)

pub object_of : (d : Data) (ms : Members) → Some ms ≡ as_object d → object ms ≡ d
object_of null ms h = cc
object_of (boolean b) ms h = cc
object_of (number n) ms h = cc
object_of (string s) ms h = cc
object_of (array ds) ms h = cc
object_of (object ns) ms h = cc

-- ---- a member that is taken out

module _ (name other : List ℕ) (differ : bytes_eq other name ≡ false) where
  abbrev is_name : String Global → Bool
  is_name k = is_at (λ l. slice_cmp nat_cmp name (string_bytes l)) k

  -- the key of that name is not the other one
  apart : (k : String Global) → is_name k ≡ true → other ≡ string_bytes k → ⊥
  apart k here same =
      let is : name ≡ string_bytes k = (bytes_eq-Decides name (string_bytes k)).0 (sym (is_eq-slice_cmp name (string_bytes k)) ∙ here) in
      true≢false (sym ((bytes_eq-Decides other name).1 (same ∙ sym is)) ∙ differ)

  step : (e : String Global × Value) (es rest : List (String Global × Value)) (b : Bool) → is_name e.0 ≡ b
      → get_member other (members_view rest) ≡ get_member other (members_view es)
      → get_member other (members_view (cond b es (e ∷ rest))) ≡ get_member other (members_view (e ∷ es))
  step e es rest true here same = sym (member_later other e es (apart e.0 here))
  step e es rest false here same = ap (λ o. match_ordering (slice_cmp nat_cmp other (string_bytes e.0)) o (Some (view e.1)) o) same

  -- the other members stay
  pub others_stay : (es : List (String Global × Value)) → get_member other (members_view (remove_entry is_name es)) ≡ get_member other (members_view es)
  others_stay [] = refl
  others_stay (e ∷ es) = step e es (remove_entry is_name es) (is_name e.0) refl (others_stay es)

-- ---- pairs

-- only a list of two is a pair
pub no_pair : (finding_of : Data → Option Finding) (vs : List Value) → length vs ≢ 2 → pair_in finding_of (items_view vs) ≡ None
no_pair finding_of [] h = refl
no_pair finding_of (v ∷ []) h = refl
no_pair finding_of (v ∷ w ∷ []) h = absurd (h refl)
no_pair finding_of (v ∷ w ∷ x ∷ vs) h = refl

-- the last value of a list of two, and the last of the others
pub pair_of_two : (finding_of : Data → Option Finding) (vs front rest : List Value) (v k : Value) → length vs ≡ 2 → vs ≡ front ++ v ∷ [] → front ≡ rest ++ k ∷ []
    → pair_in finding_of (items_view vs) ≡ option_and_then (λ id. option_map (λ e. (id, e)) (finding_of (view v))) (as_str (view k))
pair_of_two finding_of vs front [] v k two last next = ap (λ l. pair_in finding_of (items_view l)) (last ∙ ap (λ l. l ++ v ∷ []) next)
pair_of_two finding_of vs front (x ∷ rest) v k two last next =
    let long = simp length-append at (ap length (last ∙ ap (λ l. l ++ v ∷ []) next)) in
    absurd (omega arith)

-- ---- tables

-- what a table's parts give
abbrev pub together : Bool → Option (List ℕ) → Option (Option ℤ) → Option Table → Option NumberedTable
together only name given findings = if only then option_and_then (λ n. option_and_then (λ k. option_map (numbered n k) findings) given) name else None

pub without_number : (only : Bool) (name : Option (List ℕ)) (findings : Option Table) → together only name None findings ≡ None
without_number false name findings = refl
without_number true None findings = refl
without_number true (Some n) findings = refl

pub without_findings : (only : Bool) (name : Option (List ℕ)) (given : Option (Option ℤ)) → together only name given None ≡ None
without_findings false name given = refl
without_findings true None given = refl
without_findings true (Some n) None = refl
without_findings true (Some n) (Some k) = refl

pub without_name : (only : Bool) (given : Option (Option ℤ)) (findings : Option Table) → together only None given findings ≡ None
without_name false given findings = refl
without_name true given findings = refl
