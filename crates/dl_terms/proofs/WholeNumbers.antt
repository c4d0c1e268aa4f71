-- The parts of a value whose numbers are whole.
use Rattle.std.proofs.Common.{◌≡◌, ◌∙◌, ap, sym, ℕ, false, ◌||◌, List, [], ◌∷◌, ◌++◌, Option, Some}
use Rattle.std.specs.Ordering.{nat_cmp, match_ordering}
use Rattle.std.specs.declared.cmp.Ordering.{Ordering}
use Rattle.std.specs.declared.cmp.Ordering.TheVariants as ordering
use Rattle.std.specs.Cmp.Lexicographic.{slice_cmp}
use Rattle.std.proofs.lemmas.Bool.{or_parts}
use Rattle.serde_json.specs.Data.{Data, null, boolean, number, string, array, object, Members, no_members, member}
use Rattle.serde_json.specs.Find.{get, get_member}
use Rattle.serde_json.specs.View.{view, items_view}
use Rattle.serde_json.specs.Written.{has_float, items_have_float, members_have_float}
use Rattle.serde_json.specs.declared.value.Value.{Value}
use Rattle.dl_terms.proofs.Options.{none_absurd, some_same}

member_step : (d e : Data) (found : Option Data) (o : Ordering) → has_float d ≡ false → (found ≡ Some e → has_float e ≡ false)
    → match_ordering o found (Some d) found ≡ Some e → has_float e ≡ false
member_step d e found ordering.Less one rest is = rest is
member_step d e found ordering.Equal one rest is = ap has_float (sym (some_same d e is)) ∙ one
member_step d e found ordering.Greater one rest is = rest is

member_whole : (name : List ℕ) (ms : Members) (e : Data) → members_have_float ms ≡ false → get_member name ms ≡ Some e → has_float e ≡ false
member_whole name no_members e whole is = absurd (none_absurd e is)
member_whole name (member key d ms) e whole is =
    let parts = or_parts (has_float d) (members_have_float ms) whole in
    member_step d e (get_member name ms) (slice_cmp nat_cmp name key) parts.0 (member_whole name ms e parts.1) is

pub field_whole : (name : List ℕ) (d e : Data) → has_float d ≡ false → get name d ≡ Some e → has_float e ≡ false
field_whole name null e whole is = absurd (none_absurd e is)
field_whole name (boolean b) e whole is = absurd (none_absurd e is)
field_whole name (number n) e whole is = absurd (none_absurd e is)
field_whole name (string s) e whole is = absurd (none_absurd e is)
field_whole name (array ds) e whole is = absurd (none_absurd e is)
field_whole name (object ms) e whole is = member_whole name ms e whole is

pub items_whole : (vs : List Value) (v : Value) → items_have_float (items_view vs) ≡ false → has_float (view v) ≡ false
    → items_have_float (items_view (vs ++ v ∷ [])) ≡ false
items_whole [] v whole one = ap (λ b. b || false) one
items_whole (w ∷ ws) v whole one =
    let parts = or_parts (has_float (view w)) (items_have_float (items_view ws)) whole in
    ap (λ b. b || items_have_float (items_view (ws ++ v ∷ []))) parts.0 ∙ items_whole ws v parts.1 one
