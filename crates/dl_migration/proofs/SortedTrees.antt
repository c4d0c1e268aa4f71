-- The members of each object of a tree that was read are in order.
use Rattle.std.proofs.Common.{◌≡◌, ap, subst, ◌∙◌, ℕ, List, Option, Some, option_map, option_and_then, Ordering, Less, Equal, Greater}
use Rattle.std.proofs.lemmas.Cmp.{nat_list_cmp_total}
use Rattle.std.proofs.lemmas.Option.{none-some, same_Some}
use Rattle.std.specs.Ordering.{nat_cmp, match_ordering, ordering_reverse}
use Rattle.std.specs.Cmp.Lexicographic.{slice_cmp}
use Rattle.json.specs.Token.{Token}
use Rattle.json.specs.Lex.{tokens}
use Rattle.json.specs.Json as json
use Rattle.serde_json.specs.Data.{Data, null, boolean, number, string, array, object, Items, no_items, item, Members, no_members, member, put}
use Rattle.serde_json.specs.Find.{get, get_member}
use Rattle.serde_json.specs.Read.{number_of, of_json, of_items, of_members, max_depth, read}
use Rattle.dl_source.proofs.Spelling.{and_then_some, map_some}
use Rattle.dl_migration.proofs.Puts.{by_place}

-- the name comes before all of the members
abbrev pub IsBelow : List ℕ → Members → Type 0
IsBelow k no_members = Unit {0}
IsBelow k (member l d ms) = (slice_cmp nat_cmp k l ≡ Less) × IsBelow k ms

-- at each level the members are in order
abbrev mutual
  pub IsSorted : Data → Type 0
  IsSorted null = Unit {0}
  IsSorted (boolean b) = Unit {0}
  IsSorted (number n) = Unit {0}
  IsSorted (string s) = Unit {0}
  IsSorted (array ds) = AreSorted ds
  IsSorted (object ms) = AreInOrder ms

  pub AreSorted : Items → Type 0
  AreSorted no_items = Unit {0}
  AreSorted (item d ds) = IsSorted d × AreSorted ds

  pub AreInOrder : Members → Type 0
  AreInOrder no_members = Unit {0}
  AreInOrder (member k d ms) = IsBelow k ms × IsSorted d × AreInOrder ms

-- ---- where a member is put

below_more : (j k : List ℕ) (ms : Members) → slice_cmp nat_cmp j k ≡ Less → IsBelow k ms → IsBelow j ms
below_more j k no_members less below = tt
below_more j k (member l d ms) less below = (nat_list_cmp_total.trans j k l less below.0, below_more j k ms less below.1)

below-put : (j k : List ℕ) (d : Data) (ms : Members) → slice_cmp nat_cmp j k ≡ Less → IsBelow j ms → IsBelow j (put k d ms)
below-put j k d no_members less below = (less, tt)
below-put j k d (member l e ms) less below =
    by_place (IsBelow j) k d l e ms (λ _. (less, below)) (λ _. below) (λ _. (below.0, below-put j k d ms less below.1))

turned : (k l : List ℕ) → slice_cmp nat_cmp k l ≡ Greater → slice_cmp nat_cmp l k ≡ Less
turned k l greater = nat_list_cmp_total.antisymm l k ∙ ap ordering_reverse greater

order-put : (k : List ℕ) (d : Data) (ms : Members) → IsSorted d → AreInOrder ms → AreInOrder (put k d ms)
order-put k d no_members sorted order = (tt, sorted, tt)
order-put k d (member l e ms) sorted order =
    by_place AreInOrder k d l e ms (λ less. ((less, below_more k l ms less order.0), sorted, order)) (λ _. (order.0, sorted, order.2))
    (λ greater. (below-put l k d ms (turned k l greater) order.0, order.1, order-put k d ms sorted order.2))

-- ---- what is read

mutual
  sorted_json : (j : json.Json) (d : Data) → of_json j ≡ Some d → IsSorted d
  sorted_json json.null d is = subst IsSorted (same_Some null d is) tt
  sorted_json (json.boolean b) d is = subst IsSorted (same_Some (boolean b) d is) tt
  sorted_json (json.number s) d is = let p = map_some number (number_of s) d is in subst IsSorted p.2 tt
  sorted_json (json.string s) d is = subst IsSorted (same_Some (string s) d is) tt
  sorted_json (json.array js) d is = let p = map_some array (of_items js) d is in subst IsSorted p.2 (sorted_items js p.0 p.1)
  sorted_json (json.object ms) d is = let p = map_some object (of_members ms no_members) d is in subst IsSorted p.2 (sorted_members ms no_members p.0 tt p.1)

  sorted_items : (js : json.Items) (ds : Items) → of_items js ≡ Some ds → AreSorted ds
  sorted_items json.no_items ds is = subst AreSorted (same_Some no_items ds is) tt
  sorted_items (json.item j js) ds is =
      let p = and_then_some (λ (d : Data). option_map (item d) (of_items js)) (of_json j) ds is in
      let q = map_some (item p.0) (of_items js) ds p.2 in
      subst AreSorted q.2 (sorted_json j p.0 p.1, sorted_items js q.0 q.1)

  sorted_members : (ms : json.Members) (found ds : Members) → AreInOrder found → of_members ms found ≡ Some ds → AreInOrder ds
  sorted_members json.no_members found ds order is = subst AreInOrder (same_Some found ds is) order
  sorted_members (json.member k j ms) found ds order is =
      let p = and_then_some (λ (d : Data). of_members ms (put k d found)) (of_json j) ds is in
      sorted_members ms (put k p.0 found) ds (order-put k p.0 found (sorted_json j p.0 p.1) order) p.2

pub sorted_read : (text : List ℕ) (d : Data) → read text ≡ Some d → IsSorted d
sorted_read text d is =
    let whole = option_and_then (λ (p : json.Json × List Token). json.if_last p.0 p.1) (json.value max_depth (tokens text)) in
    let p = and_then_some of_json whole d is in
    sorted_json p.0 d p.2

-- ---- what is found

at_place : (o : Ordering) (d e : Data) (later : Option Data) → IsSorted d → (later ≡ Some e → IsSorted e) → match_ordering o later (Some d) later ≡ Some e
    → IsSorted e
at_place Less d e later here rest is = rest is
at_place Equal d e later here rest is = subst IsSorted (same_Some d e is) here
at_place Greater d e later here rest is = rest is

sorted_member : (k : List ℕ) (ms : Members) (e : Data) → AreInOrder ms → get_member k ms ≡ Some e → IsSorted e
sorted_member k no_members e order is = absurd (none-some e is)
sorted_member k (member l d ms) e order is =
    at_place (slice_cmp nat_cmp k l) d e (get_member k ms) order.1 (sorted_member k ms e order.2) is

pub sorted_get : (k : List ℕ) (d e : Data) → IsSorted d → get k d ≡ Some e → IsSorted e
sorted_get k (object ms) e sorted is = sorted_member k ms e sorted is
sorted_get k d e sorted is = absurd (none-some e is)
