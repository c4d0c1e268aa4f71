-- From which part of a term its fault comes, by which path, and what that part met.
use Rattle.std.specs.Prelude.{◌≡◌, ◌⊎◌, ℕ, List, [], ◌∷◌, ◌++◌, length, reverse, Option, Some, None, Result, Ok, Err, if◌then◌else◌, is_some}
use Rattle.serde_json.specs.Data.{Data}
use Rattle.serde_json.specs.Find.{get, as_array}
use Rattle.serde_json.specs.View.{items_of, view}
use Rattle.serde_json.specs.declared.value.Value.{Value as JsonValue}
use Rattle.dl_values.specs.Key.{Key}
use Rattle.dl_values.specs.declared.outcome.Outcome.{Outcome}
use Rattle.dl_desk.specs.declared.event.Event.{Event}
use Rattle.dl_history.specs.Lists.{Every}
use Rattle.dl_terms.specs.Tree.{Name, Tree, ended, load, pick, follow, each, all, over, the_item, named, Trees, no_trees, tree, copies, with_item}
use Rattle.dl_terms.specs.TermAnswers.{answer, Listed, listed, picked, target_answer, Targets, targets_in, value_target}
use Rattle.dl_terms.specs.View.{term_view}
use Rattle.dl_terms.specs.declared.answer.Answer.{Answer}
use Rattle.dl_terms.specs.declared.answer.Answer.TheVariants.{Value, Fault}
use Rattle.dl_terms.specs.declared.answer.EvalFault.{EvalFault}
use Rattle.dl_terms.specs.declared.term.Term.{Term}
use Rattle.dl_picture.specs.TermLoads.{Cells, known_by, rounds_after, with_call}
use Rattle.dl_picture.specs.declared.origin.Met.{Met}
use Rattle.dl_picture.specs.declared.origin.Met.TheVariants as met
use Rattle.dl_picture.specs.declared.origin.Origin.{Origin}
use Rattle.dl_picture.specs.declared.origin.PathStep.{PathStep}

-- ---- the parts of a term

abbrev pub list_of : Trees → List Tree
list_of no_trees = []
list_of (tree t ts) = t ∷ list_of ts

-- the copies of a body, one for each item of a list
abbrev pub copies_over : Tree → Listed → Trees
copies_over body (Listed.items ds) = copies body ds
copies_over body (Listed.none f) = no_trees

abbrev pub copies_after : Tree → Option Answer → Trees
copies_after body None = no_trees
copies_after body (Some a) = copies_over body (listed a)

-- the tree with the item in its place, in a body
abbrev pub at_item : Option Data → Tree → Tree
at_item None t = t
at_item (Some d) t = with_item d t

-- the tree is that of the term, in no body or in one with some item
abbrev pub IsOf : Tree → Term → Type 0
IsOf t term = (i : Option Data) × (t ≡ at_item i (term_view term))

-- ---- what a part may meet in a value

-- the value itself, since it doesn't have the field
abbrev pub LacksField : Name → Data → Met → Type 0
LacksField field d m = (get field d ≡ None) × (m ≡ met.Whole d)

-- the value of its field
abbrev pub HasField : Name → Data → Met → Type 0
HasField field d m = (v : JsonValue) × (get field d ≡ Some (view v)) × (m ≡ met.Field v)

-- if `known` gives the outcome of each key that has one
module _ (known : Key → Option Outcome) where
  -- ---- the path

  -- its own parts, in order: of an over its part, and then the copies of its body for the items that the part gives
  abbrev pub parts_of : Tree → List Tree
  parts_of (ended a) = []
  parts_of (load k) = []
  parts_of (pick t field) = t ∷ []
  parts_of (follow t field table) = t ∷ []
  parts_of (each t field table) = t ∷ []
  parts_of (all ts) = list_of ts
  parts_of (over t body) = t ∷ list_of (copies_after body (answer known t))
  parts_of the_item = []
  parts_of (named names ts) = list_of ts

  abbrev pub HasValue : Tree → Type 0
  HasValue t = (d : Data) × (answer known t ≡ Some (Value d))

  -- the fault is the term's own: it answers so, and each of its parts has a value
  pub record HasOwnFault (t : Tree) (f : EvalFault) : Type 0 where
    pub faults : answer known t ≡ Some (Fault f)
    pub parts : Every HasValue (parts_of t)

  -- q is the part of this number, and each part before it has a value
  pub record IsLeftmost (t : Tree) (number : ℕ) (q : Tree) : Type 0 where
    pub before : List Tree
    pub after : List Tree
    pub parts : parts_of t ≡ before ++ q ∷ after
    pub place : length before ≡ number
    pub values : Every HasValue before

  -- The path leads from a term with this fault to the part p, whose own it is: each step goes from a term with the
  -- fault into its leftmost part that has no value, and that has the fault too.
  abbrev pub LeadsTo : List PathStep → Tree → Tree → EvalFault → Type 0
  LeadsTo [] t p f = (t ≡ p) × HasOwnFault t f
  LeadsTo (s ∷ path) t p f =
      (q : Tree) × IsOf t s.term.now × (answer known t ≡ Some (Fault f)) × IsLeftmost t s.part q × LeadsTo path q p f

  -- ---- what the part met

  -- a list of ids has an item whose load fails so, and the load of each item before it has a value
  pub record HasItem (table : Name) (f : EvalFault) (d : Data) (m : Met) : Type 0 where
    pub before : List Data
    pub item : JsonValue
    pub after : List Data
    pub list : as_array d ≡ Some (items_of (before ++ view item ∷ after))
    pub faults : target_answer known (value_target table (view item)) ≡ Some (Fault f)
    pub values : Every (λ i. (row : Data) × (target_answer known (value_target table i) ≡ Some (Value row))) before
    pub met : m ≡ met.Item (length before) item

  -- the value of the field, since it's no list of ids, or an item of that list
  abbrev pub HasIds : Name → Name → EvalFault → Data → Met → Type 0
  HasIds field table f d m =
      (HasField field d m × (targets_in table (picked field (Value d)) ≡ Targets.none f))
      ⊎ ((list : Data) × (get field d ≡ Some list) × HasItem table f list m)

  -- a part with this fault of its own met this: a load the outcome of its key, which its fault has, an item nothing, and
  -- the others the value of their part, the value of its field, or an item of that
  abbrev pub Meets : Tree → EvalFault → Met → Type 0
  Meets (ended a) f m = ⊥
  Meets (load k) f m = m ≡ met.Outcome
  Meets (pick t field) f m = (d : Data) × (answer known t ≡ Some (Value d)) × LacksField field d m
  Meets (follow t field table) f m = (d : Data) × (answer known t ≡ Some (Value d)) × (LacksField field d m ⊎ HasField field d m)
  Meets (each t field table) f m = (d : Data) × (answer known t ≡ Some (Value d)) × (LacksField field d m ⊎ HasIds field table f d m)
  Meets (all ts) f m = ⊥
  Meets (over t body) f m = (d : Data) × (answer known t ≡ Some (Value d)) × (listed (Value d) ≡ Listed.none f) × (m ≡ met.Whole d)
  Meets the_item f m = m ≡ met.Nothing
  Meets (named names ts) f m = ⊥

  -- ---- together

  -- the term has the fault of this origin, by its path and from its part, which met this
  pub record ComesFrom (t : Tree) (o : Origin) : Type 0 where
    pub part : Tree
    pub whose : IsOf part o.part.now
    pub path : LeadsTo (reverse o.path.items) t part o.fault
    pub met : Meets part o.fault o.met

  -- the term has this value, or the fault of this origin
  abbrev pub EndsWith : Tree → Result Data Origin → Type 0
  EndsWith t (Ok d) = answer known t ≡ Some (Value d)
  EndsWith t (Err o) = ComesFrom t o

  -- the term waits, or ends so
  abbrev pub MayEndWith : Tree → Option (Result Data Origin) → Type 0
  MayEndWith t None = answer known t ≡ None
  MayEndWith t (Some ending) = EndsWith t ending

-- ---- the terms of a plan

module _ (events : List Event) where
  -- the cells that a term has read once it has its answer
  abbrev pub cells_in : Tree → Cells → List Event → Cells
  cells_in t cells [] = cells
  cells_in t cells (round ∷ rounds) =
      if is_some (answer (known_by events cells) t) then cells else cells_in t (with_call cells round.call round.reply) rounds

  -- the outcome of each key that a term reads in these rounds
  abbrev pub known_in : Tree → List Event → Key → Option Outcome
  known_in t rounds = known_by events (cells_in t [] rounds)

  -- a term that reads these rounds has the fault of this origin, or no fault
  abbrev pub HasOrigin : Tree → List Event → Option Origin → Type 0
  HasOrigin t rounds None = (f : EvalFault) → answer (known_in t rounds) t ≡ Some (Fault f) → ⊥
  HasOrigin t rounds (Some o) = ComesFrom (known_in t rounds) t o

  -- the origins of the faults of terms, one after another, of which the first reads from the first of these rounds on
  abbrev pub HaveOrigins : List Tree → List Event → List (Option Origin) → Type 0
  HaveOrigins [] rounds os = os ≡ []
  HaveOrigins (t ∷ ts) rounds [] = ⊥
  HaveOrigins (t ∷ ts) rounds (o ∷ os) = HasOrigin t rounds o × HaveOrigins ts (rounds_after events t [] rounds) os
