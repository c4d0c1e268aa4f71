-- What a term gives, and which keys it waits for, if some keys have their outcomes (Haxl: a computation is `Done` with
-- an answer or `Blocked` on its fetches). Unlike Haxl's, a part that fails doesn't keep the parts behind it from loading.
use Rattle.std.specs.Prelude.{◌≡◌, ℕ, suc, List, [], ◌∷◌, ◌++◌, filter, not, length, Bool, ◌&&◌, nat_le, nat_lt, Option, Some, None, option_map, option_and_then}
use Rattle.std.specs.Prelude.{if◌then◌else◌}
use Rattle.serde_json.specs.Data.{Data, array, object, Items, no_items, item}
use Rattle.serde_json.specs.Find.{get, as_str, as_array}
use Rattle.dl_values.specs.Key.{Key, key_eq, table_bytes, id_bytes}
use Rattle.dl_values.specs.declared.outcome.Outcome.{Outcome}
use Rattle.dl_values.specs.declared.outcome.Outcome.TheVariants as outcome
use Rattle.dl_terms.specs.declared.answer.Answer.{Answer}
use Rattle.dl_terms.specs.declared.answer.Answer.TheVariants.{Value, Fault}
use Rattle.dl_terms.specs.declared.answer.EvalFault.{EvalFault}
use Rattle.dl_terms.specs.declared.answer.EvalFault.TheVariants as why
use Rattle.dl_terms.specs.Joined.{members_with}
use Rattle.dl_terms.specs.Tree.{Name, Tree, ended, load, pick, follow, each, all, over, the_item, named, Trees, no_trees, tree}

-- pairs of a key and its outcome; of two pairs with the same key the first counts
abbrev pub Pairs : Type 0
Pairs = List (Key × Outcome)

abbrev pub outcome_in : Pairs → Key → Option Outcome
outcome_in [] k = None
outcome_in (p ∷ ps) k = if key_eq k p.0 then Some p.1 else outcome_in ps k

-- ---- one step of each form

-- what a load of k answers
abbrev pub loaded : Key → Outcome → Answer
loaded k (outcome.Value d) = Value d
loaded k (outcome.KeyError text) = Fault (why.Key k text)
loaded k (outcome.BatchFailed fault) = Fault (why.Batch k fault)

-- the field of a value, if it has one
abbrev pub field_or : Option Data → Answer
field_or None = Fault why.NoField
field_or (Some d) = Value d

-- a pick of what its part answers
abbrev pub picked : Name → Answer → Answer
picked field (Value d) = field_or (get field d)
picked field (Fault f) = Fault f

-- a key to load, or the fault in its place
pub data Target : Type 0 where
  key : Key → Target
  none : EvalFault → Target

-- both texts have a length that a key allows
abbrev pub is_key : Name → Name → Bool
is_key table id = nat_le 1 (length table) && nat_le (length table) table_bytes && nat_le 1 (length id) && nat_le (length id) id_bytes

abbrev pub id_target : Name → Option (List ℕ) → Target
id_target table None = Target.none why.NotAKey
id_target table (Some id) = if is_key table id then Target.key (record { table = table; id = id }) else Target.none why.NotAKey

-- the key that a value names in a table: a text is an id
abbrev pub value_target : Name → Data → Target
value_target table d = id_target table (as_str d)

abbrev pub target_in : Name → Answer → Target
target_in table (Value d) = value_target table d
target_in table (Fault f) = Target.none f

-- keys to load, or the fault in their place
pub data Targets : Type 0 where
  keys : List Target → Targets
  none : EvalFault → Targets

abbrev pub item_targets : Name → Items → List Target
item_targets table no_items = []
item_targets table (item d ds) = value_target table d ∷ item_targets table ds

-- the most items of a list
abbrev pub most_items : ℕ
most_items = 1024

abbrev pub few : List Target → Targets
few xs = if nat_lt most_items (length xs) then Targets.none why.TooMany else Targets.keys xs

abbrev pub list_targets : Name → Option Items → Targets
list_targets table None = Targets.none why.NotAList
list_targets table (Some ds) = few (item_targets table ds)

-- the keys that the items of a list name in a table
abbrev pub targets_in : Name → Answer → Targets
targets_in table (Value d) = list_targets table (as_array d)
targets_in table (Fault f) = Targets.none f

-- the values of all parts, or the leftmost fault
pub data Gathered : Type 0 where
  values : Items → Gathered
  fault : EvalFault → Gathered

abbrev pub with_first : Data → Gathered → Gathered
with_first d (Gathered.values ds) = Gathered.values (item d ds)
with_first d (Gathered.fault f) = Gathered.fault f

abbrev pub gather : List Answer → Gathered
gather [] = Gathered.values no_items
gather (Value d ∷ rest) = with_first d (gather rest)
gather (Fault f ∷ rest) = Gathered.fault f

-- how the values of parts come together: as a list, or as an object with these names
pub data Joint : Type 0 where
  listing : Joint
  naming : List Name → Joint

abbrev pub joined_data : Joint → Items → Data
joined_data listing ds = array ds
joined_data (naming names) ds = object (members_with names ds)

abbrev pub joined_as : Joint → Gathered → Answer
joined_as j (Gathered.values ds) = Value (joined_data j ds)
joined_as j (Gathered.fault f) = Fault f

-- what parts answer together: their values, joined, or the leftmost fault
abbrev pub joined : Joint → List Answer → Answer
joined j xs = joined_as j (gather xs)

-- the list of their values, or the leftmost fault
abbrev pub gathered : List Answer → Answer
gathered xs = joined listing xs

-- the object of their values under these names, or the leftmost fault
abbrev pub assembled : List Name → List Answer → Answer
assembled names xs = joined (naming names) xs

-- the items to go over, or the fault in their place
pub data Listed : Type 0 where
  items : Items → Listed
  none : EvalFault → Listed

abbrev pub items_count : Items → ℕ
items_count no_items = 0
items_count (item d ds) = suc (items_count ds)

abbrev pub few_items : Items → Listed
few_items ds = if nat_lt most_items (items_count ds) then Listed.none why.TooMany else Listed.items ds

abbrev pub list_items : Option Items → Listed
list_items None = Listed.none why.NotAList
list_items (Some ds) = few_items ds

-- the items of an answer that is a list
abbrev pub listed : Answer → Listed
listed (Value d) = list_items (as_array d)
listed (Fault f) = Listed.none f

-- the item of the `over` in whose body a term lies, if it lies in one
abbrev pub item_answer : Option Data → Answer
item_answer None = Fault why.NoItem
item_answer (Some d) = Value d

abbrev pub both : {A : Type 0} → Option A → Option (List A) → Option (List A)
both None rest = None
both (Some a) rest = option_map (λ xs. a ∷ xs) rest

abbrev pub load_waits_for : Key → Option Outcome → List Key
load_waits_for k None = k ∷ []
load_waits_for k (Some o) = []

-- what the copies of a body answer, one for each item
abbrev pub copy_answers : (Data → Option Answer) → Items → Option (List Answer)
copy_answers copy no_items = Some []
copy_answers copy (item d ds) = both (copy d) (copy_answers copy ds)

-- and together
abbrev pub copies_answer : (Data → Option Answer) → Listed → Option Answer
copies_answer copy (Listed.items ds) = option_map gathered (copy_answers copy ds)
copies_answer copy (Listed.none f) = Some (Fault f)

abbrev pub copy_waits : (Data → List Key) → Items → List Key
copy_waits copy no_items = []
copy_waits copy (item d ds) = copy d ++ copy_waits copy ds

abbrev pub copies_wait : (Data → List Key) → Listed → List Key
copies_wait copy (Listed.items ds) = copy_waits copy ds
copies_wait copy (Listed.none f) = []

-- what comes after a part waits for nothing while the part waits
abbrev pub waits_after : Option Answer → (Answer → List Key) → List Key
waits_after None next = []
waits_after (Some a) next = next a

-- ---- what a term answers, if `known` gives the outcome of each key that has one

module _ (known : Key → Option Outcome) where
  abbrev pub load_answer : Key → Option Answer
  load_answer k = option_map (loaded k) (known k)

  abbrev pub target_answer : Target → Option Answer
  target_answer (Target.key k) = load_answer k
  target_answer (Target.none f) = Some (Fault f)

  abbrev pub target_answers : List Target → Option (List Answer)
  target_answers [] = Some []
  target_answers (x ∷ xs) = both (target_answer x) (target_answers xs)

  abbrev pub targets_answer : Targets → Option Answer
  targets_answer (Targets.keys xs) = option_map gathered (target_answers xs)
  targets_answer (Targets.none f) = Some (Fault f)

  -- i is the item of the `over` whose body the term lies in, if it lies in one
  abbrev mutual
    pub answer_at : Option Data → Tree → Option Answer
    answer_at i (ended a) = Some a
    answer_at i (load k) = load_answer k
    answer_at i (pick t field) = option_map (picked field) (answer_at i t)
    answer_at i (follow t field table) = option_and_then (λ a. target_answer (target_in table (picked field a))) (answer_at i t)
    answer_at i (each t field table) = option_and_then (λ a. targets_answer (targets_in table (picked field a))) (answer_at i t)
    answer_at i (all ts) = option_map gathered (answers_at i ts)
    answer_at i (over t body) = option_and_then (λ a. copies_answer (λ d. answer_at (Some d) body) (listed a)) (answer_at i t)
    answer_at i the_item = Some (item_answer i)
    answer_at i (named names ts) = option_map (assembled names) (answers_at i ts)

    pub answers_at : Option Data → Trees → Option (List Answer)
    answers_at i no_trees = Some []
    answers_at i (tree t ts) = both (answer_at i t) (answers_at i ts)

  abbrev pub answer : Tree → Option Answer
  answer t = answer_at None t

  abbrev pub answers : Trees → Option (List Answer)
  answers ts = answers_at None ts

  -- ---- the keys of the loads that wait, left to right, each as often as a load of it waits

  abbrev pub load_waits : Key → List Key
  load_waits k = load_waits_for k (known k)

  abbrev pub target_waits : Target → List Key
  target_waits (Target.key k) = load_waits k
  target_waits (Target.none f) = []

  abbrev pub each_target_waits : List Target → List Key
  each_target_waits [] = []
  each_target_waits (x ∷ xs) = target_waits x ++ each_target_waits xs

  abbrev pub targets_waits : Targets → List Key
  targets_waits (Targets.keys xs) = each_target_waits xs
  targets_waits (Targets.none f) = []

  abbrev mutual
    pub waits_at : Option Data → Tree → List Key
    waits_at i (ended a) = []
    waits_at i (load k) = load_waits k
    waits_at i (pick t field) = waits_at i t
    waits_at i (follow t field table) = waits_at i t ++ waits_after (answer_at i t) (λ a. target_waits (target_in table (picked field a)))
    waits_at i (each t field table) = waits_at i t ++ waits_after (answer_at i t) (λ a. targets_waits (targets_in table (picked field a)))
    waits_at i (all ts) = all_wait_at i ts
    waits_at i (over t body) = waits_at i t ++ waits_after (answer_at i t) (λ a. copies_wait (λ d. waits_at (Some d) body) (listed a))
    waits_at i the_item = []
    waits_at i (named names ts) = all_wait_at i ts

    pub all_wait_at : Option Data → Trees → List Key
    all_wait_at i no_trees = []
    all_wait_at i (tree t ts) = waits_at i t ++ all_wait_at i ts

  abbrev pub waits : Tree → List Key
  waits t = waits_at None t

  abbrev pub all_wait : Trees → List Key
  all_wait ts = all_wait_at None ts

-- each key once, at its first place
abbrev pub firsts : List Key → List Key
firsts [] = []
firsts (k ∷ ks) = k ∷ filter (λ q. not (key_eq k q)) (firsts ks)

-- ---- in the words of pairs

-- the term gives the answer
abbrev pub gives : Tree → Pairs → Answer → Type 0
gives t ps a = answer (outcome_in ps) t ≡ Some a

-- the keys that the term waits for
abbrev pub frontier : Tree → Pairs → List Key
frontier t ps = firsts (waits (outcome_in ps) t)
