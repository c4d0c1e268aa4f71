-- The members of an object, beside the list that its text has of them: a name may stand twice in it, and the last counts.
use Rattle.std.proofs.Common.{◌≡◌, ◌∙◌, refl, sym, ap, ℕ, List, [], ◌∷◌, ◌++◌, get_or, Bool, true, false, ◌&&◌, cond, bytes_eq, nat_cmp, true≢false}
use Rattle.std.proofs.Common.{Option, Some, None, option_map, Ordering, Less, Equal, Greater}
use Rattle.std.proofs.lemmas.List.Folds.{list_all-append}
use Rattle.std.proofs.lemmas.Option.{get_or_from_slice_get}
use Rattle.std.proofs.lemmas.Slice.Eq.{bytes_eq-Decides}
use Rattle.std.specs.Borrow.{Bor}
use Rattle.std.specs.Cmp.Lexicographic.{slice_cmp}
use Rattle.std.specs.List.{list_all}
use Rattle.std.specs.Option.{option_or}
use Rattle.std.specs.Ordering.{match_ordering}
use Rattle.std.specs.declared.alloc.Global.{Global}
use Rattle.json.specs.Find as text
use Rattle.json.specs.Json as json
use Rattle.json.specs.Value.{members_view}
use Rattle.json.specs.declared.value.Value.{Value}
use Rattle.serde_json.proofs.Views.{get_member-put, get_member-put_other}
use Rattle.serde_json.specs.Data.{Num, Data, Members, no_members, member, put}
use Rattle.serde_json.specs.Find.{get, get_member}
use Rattle.serde_json.specs.Read.{number_of}
use Rattle.dl_source.specs.Spelling.{names_all}
use Rattle.dl_documents.specs.Inside.Trees.{number_or_null, data_of, members_data, tree_data, object_data}
use Rattle.dl_documents.specs.Inside.Members.{IsPlaceOf}
use Rattle.dl_documents.specs.Reading.{one_of}
use Rattle.dl_documents.proofs.Findings.{both_true}
use Rattle.dl_documents.proofs.PutLaws.{same_text, same_name}

-- a member as the text has it
abbrev pub Member : Type 0
Member = Bor (List ℕ) × Value Global

-- ---- what is found under a name

get-put_at : (b : Bool) (name k : List ℕ) (d : Data) (ms : Members) → bytes_eq k name ≡ b
    → get_member name (put k d ms) ≡ cond b (Some d) (get_member name ms)
get-put_at true name k d ms is =
    let same : k ≡ name = (bytes_eq-Decides k name).0 is in
    rw same (get_member-put name d ms)
get-put_at false name k d ms is =
    get_member-put_other name k d ms (λ same. true≢false (sym ((bytes_eq-Decides k name).1 (sym same)) ∙ is))

get-put : (name k : List ℕ) (d : Data) (ms : Members) → get_member name (put k d ms) ≡ cond (bytes_eq k name) (Some d) (get_member name ms)
get-put name k d ms = get-put_at (bytes_eq k name) name k d ms refl

or_later : (b : Bool) (later : Option json.Json) (j : json.Json) (found : Option Data)
    → option_or (option_map data_of later) (cond b (Some (data_of j)) found) ≡ option_or (option_map data_of (text.later_or later (cond b (Some j) None))) found
or_later b (Some i) j found = refl
or_later true None j found = refl
or_later false None j found = refl

-- the last that the list has of the name, or else what was there before
get-members_data : (name : List ℕ) (ms : json.Members) (found : Members)
    → get_member name (members_data ms found) ≡ option_or (option_map data_of (text.get_member name ms)) (get_member name found)
get-members_data name json.no_members found = refl
get-members_data name (json.member k j ms) found =
    get-members_data name ms (put k (data_of j) found)
    ∙ ap (option_or (option_map data_of (text.get_member name ms))) (get-put name k (data_of j) found)
    ∙ or_later (bytes_eq k name) (text.get_member name ms) j (get_member name found)

or_none : (o : Option Data) → option_or o None ≡ o
or_none None = refl
or_none (Some d) = refl

no_number : (name : List ℕ) (n : Option Num) → None ≡ get name (number_or_null n)
no_number name None = refl
no_number name (Some n) = refl

-- the member of a tree
pub get-data_of : (name : List ℕ) (j : json.Json) → option_map data_of (text.get name j) ≡ get name (data_of j)
get-data_of name json.null = refl
get-data_of name (json.boolean b) = refl
get-data_of name (json.number s) = no_number name (number_of s)
get-data_of name (json.string s) = refl
get-data_of name (json.array js) = refl
get-data_of name (json.object ms) = sym (get-members_data name ms no_members ∙ or_none (option_map data_of (text.get_member name ms)))

pub map_twice : {A B C : Type 0} (f : A → B) (g : B → C) (o : Option A) → option_map (λ x. g (f x)) o ≡ option_map g (option_map f o)
map_twice f g None = refl
map_twice f g (Some x) = refl

-- ---- lists that are put together

data-append : (xs ys : List Member) (found : Members)
    → members_data (members_view (xs ++ ys)) found ≡ members_data (members_view ys) (members_data (members_view xs) found)
data-append [] ys found = refl
data-append (x ∷ xs) ys found = data-append xs ys (put x.0.now (tree_data x.1) found)

-- the last member goes in last
pub data_last : (xs : List Member) (m : Member) → object_data (xs ++ m ∷ []) ≡ put m.0.now (tree_data m.1) (object_data xs)
data_last xs m = data-append xs (m ∷ []) no_members

-- the last member is found under its name
pub found_last : (name : List ℕ) (xs : List Member) (m : Member) → bytes_eq m.0.now name ≡ true
    → get_member name (object_data (xs ++ m ∷ [])) ≡ Some (tree_data m.1)
found_last name xs m is =
    ap (get_member name) (data_last xs m) ∙ get-put_at true name m.0.now (tree_data m.1) (object_data xs) is

-- and another name is found before it
pub found_before : (name : List ℕ) (xs : List Member) (m : Member) → bytes_eq m.0.now name ≡ false
    → get_member name (object_data (xs ++ m ∷ [])) ≡ get_member name (object_data xs)
found_before name xs m is =
    ap (get_member name) (data_last xs m) ∙ get-put_at false name m.0.now (tree_data m.1) (object_data xs) is

-- the value of the member at a name's place
pub value_there : (name : List ℕ) (ms : List Member) (place : ℕ) (m : Member) → IsPlaceOf name ms place → m ≡ get_or ms place m
    → get_member name (object_data ms) ≡ Some (tree_data m.1)
value_there name ms place m at is =
    at.value ∙ ap (λ (x : Member). Some (tree_data x.1)) (sym (get_or_from_slice_get ms place at.member m at.there) ∙ sym is)

-- ---- tests of the names

and_twice : (a b : Bool) → (a && b) ≡ (a && (a && b))
and_twice true b = refl
and_twice false b = refl

and_swap : (a b c : Bool) → (a && (b && c)) ≡ (b && (a && c))
and_swap true true c = refl
and_swap true false c = refl
and_swap false true c = refl
and_swap false false c = refl

and_first : (a b c : Bool) → (a && (b && c)) ≡ ((b && a) && c)
and_first true true c = refl
and_first true false c = refl
and_first false true c = refl
and_first false false c = refl

and_true : (a : Bool) → (a && true) ≡ a
and_true true = refl
and_true false = refl

names_all-put_at : (o : Ordering) (test : List ℕ → Bool) (k l : List ℕ) (d e : Data) (ms : Members) → slice_cmp nat_cmp k l ≡ o
    → names_all test (put k d ms) ≡ (test k && names_all test ms)
    → names_all test (match_ordering o (member k d (member l e ms)) (member l d ms) (member l e (put k d ms))) ≡ (test k && (test l && names_all test ms))
names_all-put_at Less test k l d e ms is later = refl
names_all-put_at Equal test k l d e ms is later =
    let same : k ≡ l = same_name k l is in
    rw same (and_twice (test l) (names_all test ms))
names_all-put_at Greater test k l d e ms is later = ap (λ b. test l && b) later ∙ and_swap (test l) (test k) (names_all test ms)

pub names_all-put : (test : List ℕ → Bool) (k : List ℕ) (d : Data) (ms : Members) → names_all test (put k d ms) ≡ (test k && names_all test ms)
names_all-put test k d no_members = refl
names_all-put test k d (member l e ms) = names_all-put_at _ test k l d e ms refl (names_all-put test k d ms)

names_all-members_data : (test : List ℕ → Bool) (ms : List Member) (found : Members)
    → names_all test (members_data (members_view ms) found) ≡ (list_all (λ m. test m.0.now) ms && names_all test found)
names_all-members_data test [] found = refl
names_all-members_data test (m ∷ ms) found =
    names_all-members_data test ms (put m.0.now (tree_data m.1) found)
    ∙ ap (λ b. list_all (λ m. test m.0.now) ms && b) (names_all-put test m.0.now (tree_data m.1) found)
    ∙ and_first (list_all (λ m. test m.0.now) ms) (test m.0.now) (names_all test found)

-- a test of an object's names sees the names in the list
pub names_all-object_data : (test : List ℕ → Bool) (ms : List Member) → names_all test (object_data ms) ≡ list_all (λ m. test m.0.now) ms
names_all-object_data test ms = names_all-members_data test ms no_members ∙ and_true (list_all (λ m. test m.0.now) ms)

-- ---- one name

-- whether each member has the name
abbrev pub all_named : List ℕ → List Member → Bool
all_named name ms = list_all (λ m. bytes_eq m.0.now name) ms

-- there is no member, or one, which has the name
abbrev IsAlone : List ℕ → Members → Type 0
IsAlone name no_members = Unit {0}
IsAlone name (member k d no_members) = k ≡ name
IsAlone name (member k d (member l e ms)) = ⊥

put_alone : (name : List ℕ) (d : Data) (ms : Members) → IsAlone name ms → put name d ms ≡ member name d no_members
put_alone name d no_members is = refl
put_alone name d (member k e no_members) is = rw (is, same_text name) refl
put_alone name d (member k e (member l f ms)) is = absurd is

stays_alone : (name : List ℕ) (ms : List Member) (found : Members) → all_named name ms ≡ true → IsAlone name found
    → IsAlone name (members_data (members_view ms) found)
stays_alone name [] found all is = is
stays_alone name (m ∷ ms) found all is =
    let both = both_true (bytes_eq m.0.now name) (all_named name ms) all in
    let same : m.0.now ≡ name = (bytes_eq-Decides m.0.now name).0 both.0 in
    stays_alone name ms (put m.0.now (tree_data m.1) found) both.1 (rw (same, put_alone name (tree_data m.1) found is) refl)

-- where each member has the name of the last, the last is the one member
pub one_last : (xs : List Member) (m : Member) → all_named m.0.now xs ≡ true → one_of (object_data (xs ++ m ∷ [])) ≡ Some (m.0.now, tree_data m.1)
one_last xs m all =
    ap one_of (data_last xs m ∙ put_alone m.0.now (tree_data m.1) (object_data xs) (stays_alone m.0.now xs no_members all tt))

name_itself : (name : List ℕ) → bytes_eq name name ≡ true
name_itself name = (bytes_eq-Decides name name).1 refl

-- the names of an object's one member are all the same
one_named : (ms : Members) (xs : List Member) (m : Member) → ((test : List ℕ → Bool) → names_all test ms ≡ list_all (λ x. test x.0.now) (xs ++ m ∷ []))
    → all_named m.0.now xs ≡ false → one_of ms ≡ None
one_named no_members xs m sees other = refl
one_named (member k d no_members) xs m sees other =
    let all : all_named k (xs ++ m ∷ []) ≡ true = sym (sees (λ name. bytes_eq name k)) ∙ (and_true (bytes_eq k k) ∙ name_itself k) in
    let parts = both_true (all_named k xs) (all_named k (m ∷ [])) (sym (list_all-append (λ x. bytes_eq x.0.now k) xs (m ∷ [])) ∙ all) in
    let last : m.0.now ≡ k = (bytes_eq-Decides m.0.now k).0 (sym (and_true (bytes_eq m.0.now k)) ∙ parts.1) in
    absurd (true≢false (sym (ap (λ name. all_named name xs) last ∙ parts.0) ∙ other))
one_named (member k d (member l e ms)) xs m sees other = refl

-- where a member has another name than the last, there is no one member
pub no_one : (xs : List Member) (m : Member) → all_named m.0.now xs ≡ false → one_of (object_data (xs ++ m ∷ [])) ≡ None
no_one xs m other = one_named (object_data (xs ++ m ∷ [])) xs m (λ test. names_all-object_data test (xs ++ m ∷ [])) other
