-- What is found in a tree is spelled by it: by parts, and by the name of an object's one member.
use Rattle.std.proofs.Common.{◌≡◌, refl, sym, ap, ◌∙◌, ℕ, ◌≤◌, ◌&&◌, Bool, true, false, List, length, if◌then◌else◌, nat_le, bytes_eq}
use Rattle.std.proofs.Common.{Option, Some, None, option_map}
use Rattle.std.proofs.lemmas.Bool.{leb-true, le-leb}
use Rattle.std.proofs.lemmas.Option.{none-some}
use Rattle.std.proofs.lemmas.Slice.Eq.{bytes_eq-Decides}
use Rattle.std.specs.Option.{option_zip}
use Rattle.serde_json.specs.Data.{Data, boolean, array, object, Items, no_items, item, Members, no_members, member}
use Rattle.serde_json.specs.Find.{as_array, as_object}
use Rattle.dl_source.proofs.Spelling.{array_of}
use Rattle.dl_source.specs.Faults.{is_sized}
use Rattle.dl_terms.proofs.Options.{from_and_then}
use Rattle.dl_documents.specs.Script.{one}
use Rattle.dl_documents.specs.Terms.{two, three}
use Rattle.dl_documents.specs.Reading.{one_of, one_in, two_of, two_in, three_of, three_in, is_true}

-- what is found is spelled by the tree
pub record Spelled {A : Type 0} (spell : A → Data) (Is : A → Type 0) (d : Data) (x : A) : Type 0 where
  pub tree : d ≡ spell x
  pub is : Is x

-- ---- parts

-- both tests passed
pub both_true : (a b : Bool) → (a && b) ≡ true → (a ≡ true) × (b ≡ true)
both_true true true h = (refl, refl)
both_true true false h = cc
both_true false true h = cc
both_true false false h = cc

pub sized : (most : ℕ) (text : List ℕ) → is_sized most text ≡ true → (1 ≤ length text) × (length text ≤ most)
sized most text h =
    let p = both_true (nat_le 1 (length text)) (nat_le (length text) most) h in
    (leb-true 1 (length text) p.0, leb-true (length text) most p.1)

pub sized_again : (most : ℕ) (text : List ℕ) → 1 ≤ length text → length text ≤ most → is_sized most text ≡ true
sized_again most text a b = rw (le-leb 1 (length text) a, le-leb (length text) most b) refl

-- a value that passed a test
pub kept : {A : Type 0} (b : Bool) (x y : A) → (if b then Some x else None) ≡ Some y → (b ≡ true) × (x ≡ y)
kept true x y h = (refl, cc)
kept false x y h = absurd (none-some y h)

-- a value that another test let pass
pub passed : {A : Type 0} (b : Bool) (x y : A) → (if b then None else Some x) ≡ Some y → (b ≡ false) × (x ≡ y)
passed true x y h = absurd (none-some y h)
passed false x y h = (refl, cc)

pub from_zip : {A B : Type 0} (a : Option A) (b : Option B) (x : A × B) → option_zip a b ≡ Some x → (a ≡ Some x.0) × (b ≡ Some x.1)
from_zip None b x h = absurd (none-some x h)
from_zip (Some p) None x h = absurd (none-some x h)
from_zip {A} {B} (Some p) (Some q) x h =
    let e : (p, q) ≡ x = cc in
    (ap (λ (y : A × B). Some y.0) e, ap (λ (y : A × B). Some y.1) e)

two_is : (ds : Items) (p : Data × Data) → two_of ds ≡ Some p → array ds ≡ two p.0 p.1
two_is no_items p h = absurd (none-some p h)
two_is (item a no_items) p h = absurd (none-some p h)
two_is (item a (item b no_items)) p h = let e : (a, b) ≡ p = cc in ap (λ (q : Data × Data). two q.0 q.1) e
two_is (item a (item b (item c ds))) p h = absurd (none-some p h)

-- a list of two
pub two_found : (d : Data) (p : Data × Data) → two_in d ≡ Some p → d ≡ two p.0 p.1
two_found d p h = let q = from_and_then two_of (as_array d) p h in array_of d q.0 q.1 ∙ two_is q.0 p q.2

three_is : (ds : Items) (p : Data × Data × Data) → three_of ds ≡ Some p → array ds ≡ three p.0 p.1 p.2
three_is no_items p h = absurd (none-some p h)
three_is (item a no_items) p h = absurd (none-some p h)
three_is (item a (item b no_items)) p h = absurd (none-some p h)
three_is (item a (item b (item c no_items))) p h = let e : (a, b, c) ≡ p = cc in ap (λ (q : Data × Data × Data). three q.0 q.1 q.2) e
three_is (item a (item b (item c (item d ds)))) p h = absurd (none-some p h)

-- a list of three
pub three_found : (d : Data) (p : Data × Data × Data) → three_in d ≡ Some p → d ≡ three p.0 p.1 p.2
three_found d p h = let q = from_and_then three_of (as_array d) p h in array_of d q.0 q.1 ∙ three_is q.0 p q.2

one_is : (ms : Members) (p : List ℕ × Data) → one_of ms ≡ Some p → object ms ≡ one p.0 p.1
one_is no_members p h = absurd (none-some p h)
one_is (member name d no_members) p h = let e : (name, d) ≡ p = cc in ap (λ (q : List ℕ × Data). one q.0 q.1) e
one_is (member name d (member other e ms)) p h = absurd (none-some p h)

pub object_of : (d : Data) (ms : Members) → as_object d ≡ Some ms → d ≡ object ms
object_of (object ns) ms h = let e : ns ≡ ms = cc in ap object e
object_of d ms h = absurd (none-some ms h)

-- an object with one member
pub one_found : (d : Data) (p : List ℕ × Data) → one_in d ≡ Some p → d ≡ one p.0 p.1
one_found d p h = let q = from_and_then one_of (as_object d) p h in object_of d q.0 q.1 ∙ one_is q.0 p q.2

pub true_is : (d : Data) → is_true d ≡ true → d ≡ boolean true
true_is (boolean true) h = refl
true_is d h = cc

-- ---- members

-- what is found in the tree, if anything, is spelled by it
abbrev pub Finds : {A : Type 0} → (A → Data) → (A → Type 0) → Data → Option A → Type 0
Finds {A} spell Is d o = (x : A) → o ≡ Some x → Spelled spell Is d x

pub none_found : {A : Type 0} (spell : A → Data) (Is : A → Type 0) (d : Data) → Finds spell Is d None
none_found spell Is d x h = absurd (none-some x h)

pub found_if : {A : Type 0} (spell : A → Data) (Is : A → Type 0) (d : Data) (b : Bool) (x y : Option A)
    → (b ≡ true → Finds spell Is d x) → Finds spell Is d y → Finds spell Is d (if b then x else y)
found_if spell Is d true x y found rest = found refl
found_if spell Is d false x y found rest = rest

-- what is found under a name of its own
pub under : {A : Type 0} (spell : A → Data) (Is : A → Type 0) (own name : List ℕ) (d : Data) (o : Option A)
    → Finds spell Is (one own d) o → bytes_eq name own ≡ true → Finds spell Is (one name d) o
under spell Is own name d o found e x h =
    let p = found x h in
    let same : name ≡ own = (bytes_eq-Decides name own).0 e in
    record { tree = ap (λ n. one n d) same ∙ p.tree; is = p.is }

-- what is made of an argument that is read by itself
pub made : {A B : Type 0} (spell : A → Data) (Is : A → Type 0) (tree : B → Data) (IsMade : B → Type 0) (mk : A → B) (own : List ℕ) (d : Data) (o : Option A)
    → Finds spell Is d o → ((x : A) → tree (mk x) ≡ one own (spell x)) → ((x : A) → Is x → IsMade (mk x)) → Finds tree IsMade (one own d) (option_map mk o)
made spell Is tree IsMade mk own d None reads trees is y h = absurd (none-some y h)
made spell Is tree IsMade mk own d (Some x) reads trees is y h =
    let p = reads x refl in
    let same : mk x ≡ y = cc in
    rw (← same) (record { tree = ap (one own) p.tree ∙ sym (trees x); is = is x p.is })

-- the same under a name of its own
pub argued : {A B : Type 0} (spell : A → Data) (Is : A → Type 0) (tree : B → Data) (IsMade : B → Type 0) (mk : A → B) (own name : List ℕ) (d : Data)
    (o : Option A) → Finds spell Is d o → ((x : A) → tree (mk x) ≡ one own (spell x)) → ((x : A) → Is x → IsMade (mk x))
    → bytes_eq name own ≡ true → Finds tree IsMade (one name d) (option_map mk o)
argued spell Is tree IsMade mk own name d o reads trees is =
    under tree IsMade own name d (option_map mk o) (made spell Is tree IsMade mk own d o reads trees is)

-- what is switched on under a name of its own
pub flagged : {A : Type 0} (spell : A → Data) (Is : A → Type 0) (x : A) (own name : List ℕ) (d : Data) → spell x ≡ one own (boolean true) → Is x
    → (bytes_eq name own && is_true d) ≡ true → Finds spell Is (one name d) (Some x)
flagged spell Is x own name d spelled is e y h =
    let p = both_true (bytes_eq name own) (is_true d) e in
    let same : name ≡ own = (bytes_eq-Decides name own).0 p.0 in
    let found : x ≡ y = cc in
    rw (← found) (record { tree = ap (λ n. one n d) same ∙ (ap (one own) (true_is d p.1) ∙ sym spelled); is = is })
