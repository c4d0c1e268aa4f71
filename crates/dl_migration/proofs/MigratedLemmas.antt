-- What the tree of a document in a later version has.
use Rattle.std.proofs.Common.{◌≡◌, refl, ap, arith, ℕ, ◌≤◌, List, Bool, true, false, ◌&&◌, ◌||◌, codes, Option, Some, None}
use Rattle.std.proofs.lemmas.Bool.{and_parts, and_from, or_parts, or_from}
use Rattle.serde_json.specs.Data.{Data, null, boolean, number, unsigned, string, array, object, Members, no_members, member, put}
use Rattle.serde_json.specs.Data.{depth, members_depth}
use Rattle.serde_json.specs.Find.{get, as_object}
use Rattle.serde_json.specs.Read.{max_depth}
use Rattle.serde_json.specs.Written.{has_float, members_have_float}
use Rattle.serde_json.proofs.Views.{get_member-put, get_member-put_other}
use Rattle.dl_source.specs.Spelling.{names_all}
use Rattle.dl_migration.specs.Migrated.{migrated}
use Rattle.dl_migration.proofs.Puts.{by_place}

-- another member than the version stays
pub get-migrated : (n : ℕ) (q : List ℕ) (d : Data) → (q ≡ codes "version" → ⊥) → get q (migrated n d) ≡ get q d
get-migrated n q null other = refl
get-migrated n q (boolean b) other = refl
get-migrated n q (number x) other = refl
get-migrated n q (string s) other = refl
get-migrated n q (array ds) other = refl
get-migrated n q (object ms) other = get_member-put_other q (codes "version") (number (unsigned n)) ms other

pub object_of : (d : Data) (ms : Members) → as_object d ≡ Some ms → d ≡ object ms
object_of null ms is = absurd (let bad : ◌≡◌ {A = Option Members} None (Some ms) = is in cc)
object_of (boolean b) ms is = absurd (let bad : ◌≡◌ {A = Option Members} None (Some ms) = is in cc)
object_of (number n) ms is = absurd (let bad : ◌≡◌ {A = Option Members} None (Some ms) = is in cc)
object_of (string s) ms is = absurd (let bad : ◌≡◌ {A = Option Members} None (Some ms) = is in cc)
object_of (array ds) ms is = absurd (let bad : ◌≡◌ {A = Option Members} None (Some ms) = is in cc)
object_of (object ns) ms is = let two : ◌≡◌ {A = Option Members} (Some ns) (Some ms) = is in let same : ns ≡ ms = cc in ap object same

-- the version is the new one
pub version-migrated : (n : ℕ) (d : Data) (ms : Members) → as_object d ≡ Some ms → get (codes "version") (migrated n d) ≡ Some (number (unsigned n))
version-migrated n null ms is = absurd (let bad : ◌≡◌ {A = Option Members} None (Some ms) = is in cc)
version-migrated n (boolean b) ms is = absurd (let bad : ◌≡◌ {A = Option Members} None (Some ms) = is in cc)
version-migrated n (number x) ms is = absurd (let bad : ◌≡◌ {A = Option Members} None (Some ms) = is in cc)
version-migrated n (string s) ms is = absurd (let bad : ◌≡◌ {A = Option Members} None (Some ms) = is in cc)
version-migrated n (array ds) ms is = absurd (let bad : ◌≡◌ {A = Option Members} None (Some ms) = is in cc)
version-migrated n (object ns) ms is = get_member-put (codes "version") (number (unsigned n)) ns

-- all names pass a test that those there and the new one pass
pub names_all-put : (test : List ℕ → Bool) (k : List ℕ) (d : Data) (ms : Members) → test k ≡ true → names_all test ms ≡ true
    → names_all test (put k d ms) ≡ true
names_all-put test k d no_members mine all = and_from (test k) true mine refl
names_all-put test k d (member l e ms) mine all =
    let p = and_parts (test l) (names_all test ms) all in
    by_place (λ ns. names_all test ns ≡ true) k d l e ms (λ _. and_from (test k) (test l && names_all test ms) mine all) (λ _. all)
    (λ _. and_from (test l) (names_all test (put k d ms)) p.0 (names_all-put test k d ms mine p.1))

-- no number is a float where none was
floats-put : (k : List ℕ) (d : Data) (ms : Members) → has_float d ≡ false → members_have_float ms ≡ false → members_have_float (put k d ms) ≡ false
floats-put k d no_members mine none = or_from (has_float d) false mine refl
floats-put k d (member l e ms) mine none =
    let p = or_parts (has_float e) (members_have_float ms) none in
    by_place (λ ns. members_have_float ns ≡ false) k d l e ms (λ _. or_from (has_float d) (has_float e || members_have_float ms) mine none)
    (λ _. or_from (has_float d) (members_have_float ms) mine p.1)
    (λ _. or_from (has_float e) (members_have_float (put k d ms)) p.0 (floats-put k d ms mine p.1))

pub floats-migrated : (n : ℕ) (d : Data) → has_float d ≡ false → has_float (migrated n d) ≡ false
floats-migrated n null none = none
floats-migrated n (boolean b) none = none
floats-migrated n (number x) none = none
floats-migrated n (string s) none = none
floats-migrated n (array ds) none = none
floats-migrated n (object ms) none = floats-put (codes "version") (number (unsigned n)) ms refl none

depth-put : (k : List ℕ) (d : Data) (ms : Members) (n : ℕ) → depth d ≤ n → members_depth ms ≤ n → members_depth (put k d ms) ≤ n
depth-put k d no_members n mine all = omega arith
depth-put k d (member l e ms) n mine all =
    by_place (λ ns. members_depth ns ≤ n) k d l e ms (λ _. omega arith) (λ _. omega arith)
    (λ _. omega (arith, depth-put k d ms n mine (omega arith)))

-- it nests no deeper than a text may
pub depth-migrated : (n : ℕ) (d : Data) → depth d ≤ max_depth → depth (migrated n d) ≤ max_depth
depth-migrated n null low = low
depth-migrated n (boolean b) low = low
depth-migrated n (number x) low = low
depth-migrated n (string s) low = low
depth-migrated n (array ds) low = low
depth-migrated n (object ms) low =
    let inside : members_depth (put (codes "version") (number (unsigned n)) ms) ≤ 126 =
    depth-put (codes "version") (number (unsigned n)) ms 126 (omega arith) (omega arith) in
    omega (arith, inside)
