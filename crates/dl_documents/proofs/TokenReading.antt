-- The data of what tokens spell, one turn of the grammar's loops after another.
use Rattle.std.proofs.Common.{◌≡◌, ◌∙◌, refl, sym, ap, ℕ, zero, suc, ◌-◌, ◌<◌, ◌≤◌, List, ◌∷◌, length, Option, Some, None, option_map, arith}
use Rattle.std.proofs.lemmas.Option.{none-some, same_Some}
use Rattle.json.proofs.Grammar.{value_is, value-begin_array, value-begin_object, items_end, items_more, items_fail, members_end, members_no_key, members_more}
use Rattle.json.proofs.Grammar.{members_fail}
use Rattle.json.specs.Json as json
use Rattle.json.specs.Json.{Parse, parse_map, after_end_array, read_key, value, items, members}
use Rattle.json.specs.Reads.{token_of}
use Rattle.json.specs.Token.{Token}
use Rattle.json.specs.declared.token.Token as token
use Rattle.serde_json.specs.Data.{Num, Data, null, boolean, number, string, array, object, Items, no_items, item, Members, no_members, put}
use Rattle.serde_json.specs.Find.{as_object}
use Rattle.serde_json.specs.Read.{number_of, of_json, of_items, of_members, converted}
use Rattle.dl_documents.proofs.TreeData.{items_after}

-- ---- what was converted

apart_at : {A B : Type 0} (f : A → Option B) (a : A) (s : List Token) (x : Option B) (b : B) (r : List Token) → f a ≡ x
    → option_map {U = B × List Token} (λ y. (y, s)) x ≡ Some (b, r) → (c : A) × (◌≡◌ {A = Option (A × List Token)} (Some (a, s)) (Some (c, r))) × (f c ≡ Some b)
apart_at f a s None b r is e = absurd (none-some (b, r) e)
apart_at f a s (Some y) b r is e =
    let same : (y, s) ≡ (b, r) = same_Some (y, s) (b, r) e in
    (a, ap (λ q. Some (a, q.1)) same, is ∙ ap (λ q. Some q.0) same)

-- what was read, and what that was converted to
pub taken_apart : {A B : Type 0} (f : A → Option B) (o : Option (A × List Token)) (b : B) (r : List Token) → converted f o ≡ Some (b, r)
    → (a : A) × (o ≡ Some (a, r)) × (f a ≡ Some b)
taken_apart f None b r e = absurd (none-some (b, r) e)
taken_apart f (Some q) b r e = apart_at f q.0 q.1 (f q.0) b r refl e

nothing : {B : Type 0} (s : List Token) (x : Option B) → option_map {U = B × List Token} (λ y. (y, s)) x ≡ None → x ≡ None
nothing s None e = refl
nothing s (Some y) e = absurd (cc)

mapped : {A B : Type 0} (g : A → B) (s : List Token) (x : Option A) → option_map (λ y. (y, s)) (option_map g x) ≡ parse_map g (option_map (λ y. (y, s)) x)
mapped g s None = refl
mapped g s (Some a) = refl

-- a list's data are those of its items
list_converted : (o : Option (json.Items × List Token)) → converted of_json (parse_map json.array o) ≡ parse_map array (converted of_items o)
list_converted None = refl
list_converted (Some q) = mapped array q.1 (of_items q.0)

-- an object's are those of its members
object_converted : (o : Option (json.Members × List Token))
    → converted of_json (parse_map json.object o) ≡ parse_map object (converted (λ ms. of_members ms no_members) o)
object_converted None = refl
object_converted (Some q) = mapped object q.1 (of_members q.0 no_members)

-- what stands in brackets
pub begun_list : (depth : ℕ) (ts : List Token) → 0 < depth
    → converted of_json (value depth (Token.begin_array ∷ ts)) ≡ parse_map array (converted of_items (items (value (depth - 1)) (length ts) ts))
begun_list depth ts some = ap (converted of_json) (value-begin_array depth ts some) ∙ list_converted (items (value (depth - 1)) (length ts) ts)

pub begun_object : (depth : ℕ) (ts : List Token) → 0 < depth
    → converted of_json (value depth (Token.begin_object ∷ ts))
    ≡ parse_map object (converted (λ ms. of_members ms no_members) (members (value (depth - 1)) (length ts) ts))
begun_object depth ts some = ap (converted of_json) (value-begin_object depth ts some) ∙ object_converted (members (value (depth - 1)) (length ts) ts)

-- where nothing may nest nothing stands in brackets
pub no_list : (ts : List Token) → converted of_json (value 0 (Token.begin_array ∷ ts)) ≡ None
no_list ts = ap (converted of_json) (value_is 0 (Token.begin_array ∷ ts))

pub no_object : (ts : List Token) → converted of_json (value 0 (Token.begin_object ∷ ts)) ≡ None
no_object ts = ap (converted of_json) (value_is 0 (Token.begin_object ∷ ts))

-- ---- items after others

after_one : (xs more : Items) (d : Data) → items_after (items_after xs (item d no_items)) more ≡ items_after xs (item d more)
after_one no_items more d = refl
after_one (item x xs) more d = ap (item x) (after_one xs more d)

-- an item that was read goes to those before it
pub one_more : (xs : Items) (d : Data) (o : Option (Items × List Token))
    → parse_map (items_after xs) (parse_map (item d) o) ≡ parse_map (items_after (items_after xs (item d no_items))) o
one_more xs d None = refl
one_more xs d (Some q) = ap (λ ds. Some (ds, q.1)) (sym (after_one xs q.0 d))

pub after_all : (xs : Items) → items_after xs no_items ≡ xs
after_all no_items = refl
after_all (item x xs) = ap (item x) (after_all xs)

-- ---- an item or a member before the rest

first_item : (j : json.Json) (d : Data) → of_json j ≡ Some d → (o : Option (json.Items × List Token))
    → converted of_items (parse_map (json.item j) o) ≡ parse_map (item d) (converted of_items o)
first_item j d is None = refl
first_item j d is (Some q) = rw is (mapped (item d) q.1 (of_items q.0))

no_first_item : (j : json.Json) → of_json j ≡ None → (o : Option (json.Items × List Token)) → converted of_items (parse_map (json.item j) o) ≡ None
no_first_item j is None = refl
no_first_item j is (Some q) = rw is refl

first_member : (k : List ℕ) (j : json.Json) (d : Data) (found : Members) → of_json j ≡ Some d → (o : Option (json.Members × List Token))
    → converted (λ ms. of_members ms found) (parse_map (json.member k j) o) ≡ converted (λ ms. of_members ms (put k d found)) o
first_member k j d found is None = refl
first_member k j d found is (Some q) = rw is refl

no_first_member : (k : List ℕ) (j : json.Json) (found : Members) → of_json j ≡ None → (o : Option (json.Members × List Token))
    → converted (λ ms. of_members ms found) (parse_map (json.member k j) o) ≡ None
no_first_member k j found is None = refl
no_first_member k j found is (Some q) = rw is refl

-- ---- turns

module _ (p : Parse json.Json) where
  -- an item was read
  pub item_turn : (n : ℕ) (ts r : List Token) (d : Data) → 0 < n → after_end_array ts ≡ None → converted of_json (p ts) ≡ Some (d, r)
      → converted of_items (items p n ts) ≡ parse_map (item d) (converted of_items (items p (n - 1) r))
  item_turn n ts r d some going e =
      let j = taken_apart of_json (p ts) d r e in
      ap (converted of_items) (items_more p n ts r j.0 some going j.1) ∙ first_item j.0 d j.2 (items p (n - 1) r)

  no_item_at : (n : ℕ) (ts : List Token) (o : Option (json.Json × List Token)) → p ts ≡ o → 0 < n → after_end_array ts ≡ None → converted of_json o ≡ None
      → converted of_items (items p n ts) ≡ None
  no_item_at n ts None is some going e = ap (converted of_items) (items_fail p n ts going is)
  no_item_at n ts (Some q) is some going e =
      ap (converted of_items) (items_more p n ts q.1 q.0 some going is) ∙ no_first_item q.0 (nothing q.1 (of_json q.0) e) (items p (n - 1) q.1)

  -- none is next
  pub no_item : (n : ℕ) (ts : List Token) → after_end_array ts ≡ None → converted of_json (p ts) ≡ None → converted of_items (items p n ts) ≡ None
  unfolding items
  no_item zero ts going e = refl
  no_item (suc n) ts going e = no_item_at (suc n) ts (p ts) refl (omega arith) going e

  -- the list is over
  pub no_more_items : (n : ℕ) (ts r : List Token) → length ts ≤ n → after_end_array ts ≡ Some r → converted of_items (items p n ts) ≡ Some (no_items, r)
  no_more_items n ts r enough over = ap (converted of_items) (items_end p n ts r enough over)

  module _ (found : Members) where
    -- a member was read
    pub member_turn : (n : ℕ) (k : List ℕ) (ts s r : List Token) (d : Data) → 0 < n → read_key ts ≡ Some (Some k, s) → converted of_json (p s) ≡ Some (d, r)
        → converted (λ ms. of_members ms found) (members p n ts) ≡ converted (λ ms. of_members ms (put k d found)) (members p (n - 1) r)
    member_turn n k ts s r d some key e =
        let j = taken_apart of_json (p s) d r e in
        ap (converted (λ ms. of_members ms found)) (members_more p n k ts s r j.0 some key j.1) ∙ first_member k j.0 d found j.2 (members p (n - 1) r)

    no_member_at : (n : ℕ) (k : List ℕ) (ts s : List Token) (o : Option (json.Json × List Token)) → p s ≡ o → 0 < n → read_key ts ≡ Some (Some k, s)
        → converted of_json o ≡ None → converted (λ ms. of_members ms found) (members p n ts) ≡ None
    no_member_at n k ts s None is some key e = ap (converted (λ ms. of_members ms found)) (members_fail p n k ts s key is)
    no_member_at n k ts s (Some q) is some key e =
        ap (converted (λ ms. of_members ms found)) (members_more p n k ts s q.1 q.0 some key is)
        ∙ no_first_member k q.0 found (nothing q.1 (of_json q.0) e) (members p (n - 1) q.1)

    -- a name is next, and no value behind it
    pub no_value : (n : ℕ) (k : List ℕ) (ts s : List Token) → read_key ts ≡ Some (Some k, s) → converted of_json (p s) ≡ None
        → converted (λ ms. of_members ms found) (members p n ts) ≡ None
    unfolding members
    no_value zero k ts s key e = refl
    no_value (suc n) k ts s key e = no_member_at (suc n) k ts s (p s) refl (omega arith) key e

    -- no name is next
    pub no_key : (n : ℕ) (ts : List Token) → read_key ts ≡ None → converted (λ ms. of_members ms found) (members p n ts) ≡ None
    no_key n ts none = ap (converted (λ ms. of_members ms found)) (members_no_key p n ts none)

    -- the object is over
    pub no_more_members : (n : ℕ) (ts r : List Token) → length ts ≤ n → read_key ts ≡ Some (None, r)
        → converted (λ ms. of_members ms found) (members p n ts) ≡ Some (found, r)
    no_more_members n ts r enough over = ap (converted (λ ms. of_members ms found)) (members_end p n ts r enough over)

-- ---- what is no object

from_list : (o : Option Items) (d : Data) → option_map array o ≡ Some d → as_object d ≡ None
from_list None d e = absurd (none-some d e)
from_list (Some ds) d e = ap as_object (sym (same_Some (array ds) d e))

from_number : (o : Option Num) (d : Data) → option_map number o ≡ Some d → as_object d ≡ None
from_number None d e = absurd (none-some d e)
from_number (Some n) d e = ap as_object (sym (same_Some (number n) d e))

other_data : (j : json.Json) (d : Data) → ((ms : json.Members) → j ≡ json.object ms → ⊥) → of_json j ≡ Some d → as_object d ≡ None
other_data json.null d other e = ap as_object (sym (same_Some null d e))
other_data (json.boolean b) d other e = ap as_object (sym (same_Some (boolean b) d e))
other_data (json.number s) d other e = from_number (number_of s) d e
other_data (json.string s) d other e = ap as_object (sym (same_Some (string s) d e))
other_data (json.array js) d other e = from_list (of_items js) d e
other_data (json.object ms) d other e = absurd (other ms refl)

first_is : (i j : json.Json) (s r : List Token) → ◌≡◌ {A = Option (json.Json × List Token)} (Some (i, s)) (Some (j, r)) → i ≡ j
first_is i j s r e = ap (λ q. q.0) (same_Some (i, s) (j, r) e)

list_is : (o : Option (json.Items × List Token)) (j : json.Json) (r : List Token) → parse_map json.array o ≡ Some (j, r) → (ms : json.Members)
    → j ≡ json.object ms → ⊥
list_is None j r e ms is = none-some (j, r) e
list_is (Some q) j r e ms is = let same = first_is (json.array q.0) j q.1 r e in cc

other_json : (depth : ℕ) (t : token.Token) (ts r : List Token) (j : json.Json) → (t ≡ token.Token.BeginObject → ⊥)
    → value depth (token_of t ∷ ts) ≡ Some (j, r) → (ms : json.Members) → j ≡ json.object ms → ⊥
other_json depth token.Token.BeginObject ts r j other e ms is = other refl
other_json depth token.Token.BeginArray ts r j other e ms is = list_is _ j r (sym (value_is depth (Token.begin_array ∷ ts)) ∙ e) ms is
other_json depth (token.Token.String x) ts r j other e ms is =
    let same = first_is (json.string x.now) j ts r (sym (value_is depth (Token.string x.now ∷ ts)) ∙ e) in cc
other_json depth (token.Token.Number x) ts r j other e ms is =
    let same = first_is (json.number x.now) j ts r (sym (value_is depth (Token.number x.now ∷ ts)) ∙ e) in cc
other_json depth (token.Token.Bool b) ts r j other e ms is =
    let same = first_is (json.boolean b) j ts r (sym (value_is depth (Token.boolean b ∷ ts)) ∙ e) in cc
other_json depth token.Token.Null ts r j other e ms is =
    let same = first_is json.null j ts r (sym (value_is depth (Token.null ∷ ts)) ∙ e) in cc
other_json depth token.Token.EndObject ts r j other e ms is = none-some (j, r) (sym (value_is depth (Token.end_object ∷ ts)) ∙ e)
other_json depth token.Token.EndArray ts r j other e ms is = none-some (j, r) (sym (value_is depth (Token.end_array ∷ ts)) ∙ e)
other_json depth (token.Token.Key x) ts r j other e ms is = none-some (j, r) (sym (value_is depth (Token.key x.now ∷ ts)) ∙ e)
other_json depth token.Token.Bad ts r j other e ms is = none-some (j, r) (sym (value_is depth (Token.bad ∷ ts)) ∙ e)

-- what doesn't begin as an object is none
pub other_value : (depth : ℕ) (t : token.Token) (ts r : List Token) (d : Data) → (t ≡ token.Token.BeginObject → ⊥)
    → converted of_json (value depth (token_of t ∷ ts)) ≡ Some (d, r) → as_object d ≡ None
other_value depth t ts r d other e =
    let j = taken_apart of_json (value depth (token_of t ∷ ts)) d r e in
    other_data j.0 d (other_json depth t ts r j.0 other j.1) j.2
