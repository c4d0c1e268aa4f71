-- No number of an object is a float, where none is of what is found under its names.
use Rattle.std.proofs.Common.{◌≡◌, refl, sym, ap, subst, ◌∙◌, ℕ, ℤ, List, Bool, true, false, ◌||◌, Option, Some, None, Ordering, Less, Equal, Greater, bytes_eq}
use Rattle.std.proofs.lemmas.Bool.{and_parts, or_from, false≢true}
use Rattle.std.proofs.lemmas.Cmp.{nat_list_cmp_total, tied_itself}
use Rattle.std.proofs.lemmas.Option.{none-some}
use Rattle.std.proofs.lemmas.Slice.Eq.{bytes_eq-Decides}
use Rattle.std.specs.Ordering.{nat_cmp, match_ordering}
use Rattle.std.specs.Cmp.Lexicographic.{slice_cmp}
use Rattle.serde_json.specs.Data.{Data, number, unsigned, negative, float, object, Members, no_members, member}
use Rattle.serde_json.specs.Find.{get, get_member}
use Rattle.serde_json.specs.Written.{has_float, members_have_float}
use Rattle.dl_source.specs.Spelling.{names_all, has_only, whole}
use Rattle.dl_migration.proofs.Puts.{same_name}
use Rattle.dl_migration.proofs.SortedTrees.{IsBelow, AreInOrder, IsSorted}

-- ---- each member is found under its name

here : (l : List ℕ) (e : Data) (ms : Members) → get_member l (member l e ms) ≡ Some e
here l e ms = ap (λ (o : Ordering). match_ordering o (get_member l ms) (Some e) (get_member l ms)) (tied_itself nat_list_cmp_total l)

absent_below : (k : List ℕ) (ms : Members) → IsBelow k ms → get_member k ms ≡ None
absent_below k no_members below = refl
absent_below k (member l e ms) below =
    ap (λ (o : Ordering). match_ordering o (get_member k ms) (Some e) (get_member k ms)) below.0 ∙ absent_below k ms below.1

at_place : (o : Ordering) (e d : Data) (later : Option Data) → (o ≡ Equal → later ≡ None) → later ≡ Some d → match_ordering o later (Some e) later ≡ Some d
at_place Less e d later none is = is
at_place Equal e d later none is = absurd (none-some d (sym (none refl) ∙ is))
at_place Greater e d later none is = is

-- what is found among the later members is found among all
later : (l : List ℕ) (e : Data) (ms : Members) → IsBelow l ms → (k : List ℕ) (d : Data) → get_member k ms ≡ Some d → get_member k (member l e ms) ≡ Some d
later l e ms below k d is =
    at_place (slice_cmp nat_cmp k l) e d (get_member k ms)
    (λ equal. ap (λ (n : List ℕ). get_member n ms) (same_name k l equal) ∙ absent_below l ms below) is

whole_members : (test : List ℕ → Bool) (ms : Members) → AreInOrder ms → names_all test ms ≡ true
    → ((k : List ℕ) (d : Data) → get_member k ms ≡ Some d → test k ≡ true → has_float d ≡ false) → members_have_float ms ≡ false
whole_members test no_members order all each = refl
whole_members test (member l e ms) order all each =
    let p = and_parts (test l) (names_all test ms) all in
    or_from (has_float e) (members_have_float ms) (each l e (here l e ms) p.0)
    (whole_members test ms order.2 p.1 (λ k d is known. each k d (later l e ms order.0 k d is) known))

pub whole_object : (test : List ℕ → Bool) (d : Data) → IsSorted d → has_only test d ≡ true
    → ((k : List ℕ) (e : Data) → get k d ≡ Some e → test k ≡ true → has_float e ≡ false) → has_float d ≡ false
whole_object test (object ms) sorted all each = whole_members test ms sorted all each
whole_object test d sorted all each = absurd (false≢true all)

-- ---- what is found under which name

-- a name that is one of four
pub of_four : {P : Type 0} (a b c d : Bool) → (a || (b || (c || d))) ≡ true → (a ≡ true → P) → (b ≡ true → P) → (c ≡ true → P) → (d ≡ true → P) → P
of_four true b c d is first second third fourth = first refl
of_four false true c d is first second third fourth = second refl
of_four false false true d is first second third fourth = third refl
of_four false false false d is first second third fourth = fourth is

-- one of two
pub of_two : {P : Type 0} (a b : Bool) → (a || b) ≡ true → (a ≡ true → P) → (b ≡ true → P) → P
of_two true b is first second = first refl
of_two false b is first second = second is

-- one of three
pub of_three : {P : Type 0} (a b c : Bool) → (a || (b || c)) ≡ true → (a ≡ true → P) → (b ≡ true → P) → (c ≡ true → P) → P
of_three true b c is first second third = first refl
of_three false true c is first second third = second refl
of_three false false c is first second third = third is

-- what is found under a name is found under the same name
pub under : (k name : List ℕ) (d e : Data) → bytes_eq k name ≡ true → get k d ≡ Some e → get name d ≡ Some e
under k name d e same is = subst (λ (n : List ℕ). get n d ≡ Some e) ((bytes_eq-Decides k name).0 same) is

-- a whole number is no float
pub whole_number : (d : Data) (z : ℤ) → whole d ≡ Some z → has_float d ≡ false
whole_number (number (unsigned n)) z is = refl
whole_number (number (negative x)) z is = refl
whole_number (number (float x)) z is = absurd (none-some z is)
whole_number d z is = absurd (none-some z is)
