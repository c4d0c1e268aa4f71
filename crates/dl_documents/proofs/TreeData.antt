-- Trees beside the data that they stand for.
use Rattle.std.proofs.Common.{◌≡◌, ◌∙◌, sym, ap, refl, ℕ, List, [], ◌∷◌, ◌++◌, Bool, true, false, ◌&&◌, Option, Some, None, option_map, option_and_then}
use Rattle.std.proofs.Common.{is_some, Global, Bor, length, ◌<◌, arith}
use Rattle.std.proofs.lemmas.Bool.{true≢false}
use Rattle.std.proofs.lemmas.List.{length-append}
use Rattle.json.specs.Json as json
use Rattle.json.specs.Tree.{json_tokens, items_tokens, members_tokens}
use Rattle.json.specs.Value as tree
use Rattle.json.specs.declared.value.Value as tree_value
use Rattle.json.proofs.Trees as trees
use Rattle.serde_json.specs.Data.{Num, Data, number, array, object, Items, no_items, item, Members, no_members, put}
use Rattle.serde_json.specs.Read.{number_of, of_json, of_items, of_members}
use Rattle.serde_json.specs.View as owned
use Rattle.serde_json.specs.declared.value.Value as owned_value
use Rattle.dl_documents.specs.Inside.Trees.{number_or_null, data_of, items_data, members_data, list_data}

-- ---- which trees have data

pub map_fits : {A B : Type 0} (f : A → B) (o : Option A) → is_some (option_map f o) ≡ is_some o
map_fits f None = refl
map_fits f (Some a) = refl

both : {A B C : Type 0} (f : A → B → C) (o : Option A) (more : Option B)
    → is_some (option_and_then (λ a. option_map (f a) more) o) ≡ (is_some o && is_some more)
both f None more = refl
both f (Some a) more = map_fits (f a) more

-- an item fits with the rest where both do
pub item_fits : (j : json.Json) (js : json.Items) → is_some (of_items (json.item j js)) ≡ (is_some (of_json j) && is_some (of_items js))
item_fits j js = both item (of_json j) (of_items js)

after : (k : List ℕ) (ms : json.Members) (a b : Members) → ((x y : Members) → is_some (of_members ms x) ≡ is_some (of_members ms y)) → (o : Option Data)
    → is_some (option_and_then (λ d. of_members ms (put k d a)) o) ≡ (is_some o && is_some (of_members ms b))
after k ms a b same None = refl
after k ms a b same (Some d) = same (put k d a) b

-- whether members fit does not turn on what stands before them
pub any_before : (ms : json.Members) (a b : Members) → is_some (of_members ms a) ≡ is_some (of_members ms b)
any_before json.no_members a b = refl
any_before (json.member k j ms) a b = after k ms a no_members (any_before ms) (of_json j) ∙ sym (after k ms b no_members (any_before ms) (of_json j))

pub member_fits : (k : List ℕ) (j : json.Json) (ms : json.Members)
    → is_some (of_members (json.member k j ms) no_members) ≡ (is_some (of_json j) && is_some (of_members ms no_members))
member_fits k j ms = after k ms no_members no_members (any_before ms) (of_json j)

-- ---- what a tree that fits is

number_is : (o : Option Num) → is_some (option_map number o) ≡ true → option_map number o ≡ Some (number_or_null o)
number_is None e = absurd (true≢false (sym e))
number_is (Some n) e = refl

left : (a b : Bool) → (a && b) ≡ true → a ≡ true
left true b e = refl
left false b e = e

right : (a b : Bool) → (a && b) ≡ true → b ≡ true
right true b e = e
right false b e = absurd (true≢false (sym e))

mutual
  pub fitting_data : (j : json.Json) → is_some (of_json j) ≡ true → of_json j ≡ Some (data_of j)
  fitting_data json.null e = refl
  fitting_data (json.boolean b) e = refl
  fitting_data (json.number s) e = number_is (number_of s) e
  fitting_data (json.string s) e = refl
  fitting_data (json.array js) e = ap (option_map array) (fitting_items js (sym (map_fits array (of_items js)) ∙ e))
  fitting_data (json.object ms) e = ap (option_map object) (fitting_members ms no_members (sym (map_fits object (of_members ms no_members)) ∙ e))

  pub fitting_items : (js : json.Items) → is_some (of_items js) ≡ true → of_items js ≡ Some (items_data js)
  fitting_items json.no_items e = refl
  fitting_items (json.item j js) e =
      let all : (is_some (of_json j) && is_some (of_items js)) ≡ true = sym (item_fits j js) ∙ e in
      rw (fitting_data j (left _ _ all)) (ap (option_map (item (data_of j))) (fitting_items js (right _ _ all)))

  pub fitting_members : (ms : json.Members) (found : Members) → is_some (of_members ms found) ≡ true → of_members ms found ≡ Some (members_data ms found)
  fitting_members json.no_members found e = refl
  fitting_members (json.member k j ms) found e =
      let all : (is_some (of_json j) && is_some (of_members ms (put k (data_of j) found))) ≡ true =
      sym (after k ms found (put k (data_of j) found) (any_before ms) (of_json j)) ∙ e in
      rw (fitting_data j (left _ _ all)) (fitting_members ms (put k (data_of j) found) (right _ _ all))

-- ---- lists that grow at their end

-- one more item after those of a list
abbrev pub items_after : Items → Items → Items
items_after no_items more = more
items_after (item d ds) more = item d (items_after ds more)

-- an owned value after others
pub owned_push : (vs : List owned_value.Value) (v : owned_value.Value)
    → owned.items_view (vs ++ v ∷ []) ≡ items_after (owned.items_view vs) (item (owned.view v) no_items)
owned_push [] v = refl
owned_push (w ∷ vs) v = ap (item (owned.view w)) (owned_push vs v)

pub tree_push : (ts : List (tree_value.Value Global)) (t : tree_value.Value Global)
    → list_data (ts ++ t ∷ []) ≡ items_after (list_data ts) (item (data_of (tree.value_view t)) no_items)
tree_push [] t = refl
tree_push (u ∷ ts) t = ap (item (data_of (tree.value_view u))) (tree_push ts t)

-- one more item on both sides
pub items_push : (vs : List owned_value.Value) (ts : List (tree_value.Value Global)) (v : owned_value.Value) (t : tree_value.Value Global)
    → owned.items_view vs ≡ list_data ts → owned.view v ≡ data_of (tree.value_view t) → owned.items_view (vs ++ v ∷ []) ≡ list_data (ts ++ t ∷ [])
items_push vs ts v t all one = owned_push vs v ∙ rw (all, one) (sym (tree_push ts t))

-- an item has fewer tokens than the list that it stands in, and a member than the object
pub item_smaller : (front : List (tree_value.Value Global)) (t : tree_value.Value Global) (rest : List (tree_value.Value Global))
    → length (json_tokens (tree.value_view t)) < length (items_tokens (tree.items_view (front ++ t ∷ rest)))
item_smaller [] t rest = trees.item_smaller (t ∷ rest) 0 t (omega arith)
item_smaller (u ∷ front) t rest =
    omega (arith, length-append (json_tokens (tree.value_view u)) (items_tokens (tree.items_view (front ++ t ∷ rest))), item_smaller front t rest)

pub member_smaller : (front : List (Bor (List ℕ) × tree_value.Value Global)) (m : Bor (List ℕ) × tree_value.Value Global)
    (rest : List (Bor (List ℕ) × tree_value.Value Global))
    → length (json_tokens (tree.value_view m.1)) < length (members_tokens (tree.members_view (front ++ m ∷ rest)))
member_smaller [] m rest = trees.member_smaller (m ∷ rest) 0 m (omega arith)
member_smaller (n ∷ front) m rest =
    omega (arith, length-append (json_tokens (tree.value_view n.1)) (members_tokens (tree.members_view (front ++ m ∷ rest))), member_smaller front m rest)
