-- What parts of a term end with, on the way to where the term's fault comes from.
use Rattle.std.specs.Prelude.{◌≡◌, ℕ, suc, List, [], ◌∷◌, ◌++◌, length, map, Option, Some, None, option_map, Result, Ok, Err, Vec}
use Rattle.std.specs.declared.alloc.Global.{Global}
use Rattle.serde_json.specs.Data.{Data}
use Rattle.serde_json.specs.View.{items_of, items_view, view}
use Rattle.serde_json.specs.declared.value.Value.{Value as JsonValue}
use Rattle.dl_values.specs.Key.{Key}
use Rattle.dl_values.specs.declared.outcome.Outcome.{Outcome}
use Rattle.dl_history.specs.Lists.{Every}
use Rattle.dl_terms.specs.Tree.{Name, Tree}
use Rattle.dl_terms.specs.TermAnswers.{answer, answers, gathered, item_targets, Joint, joined, joined_data, target_answer, target_answers, value_target}
use Rattle.dl_terms.specs.View.{trees_of}
use Rattle.dl_terms.specs.declared.answer.Answer.{Answer}
use Rattle.dl_terms.specs.declared.answer.Answer.TheVariants.{Value, Fault}
use Rattle.dl_terms.specs.declared.answer.EvalFault.{EvalFault}
use Rattle.dl_terms.specs.declared.term.Term.{Term}
use Rattle.dl_picture.specs.FaultPath.{HasValue, MayEndWith, parts_of}
use Rattle.dl_picture.specs.declared.origin.Met.TheVariants as met
use Rattle.dl_picture.specs.declared.origin.Origin.{Origin}

-- a value as an ending
abbrev pub value_ending : Data → Result Data Origin
value_ending d = Ok d

-- the endings are values, and this is what they are together; or the first n of them are values, and the next is this
-- fault
abbrev pub Gathers : Joint → List (Result Data Origin) → Result Data (ℕ × Origin) → Type 0
Gathers j endings (Ok d) = (vs : List Data) × (endings ≡ map value_ending vs) × (d ≡ joined_data j (items_of vs))
Gathers j endings (Err e) = (vs : List Data) × (rest : List (Result Data Origin)) × (endings ≡ map value_ending vs ++ Err e.1 ∷ rest) × (length vs ≡ e.0)

-- with the ending of one part more, unless one waits
abbrev pub IsAdded : Option (Vec (Result Data Origin) Global) → Option (Result Data Origin) → Option (Vec (Result Data Origin) Global) → Type 0
IsAdded None e None = Unit {0}
IsAdded None e (Some more) = ⊥
IsAdded (Some es) None None = Unit {0}
IsAdded (Some es) None (Some more) = ⊥
IsAdded (Some es) (Some e) None = ⊥
IsAdded (Some es) (Some e) (Some more) = more.items ≡ es.items ++ e ∷ []

-- the value with which a term ends, if it does
abbrev pub value_of : Option (Result Data Origin) → Option Data
value_of None = None
value_of (Some (Ok d)) = Some d
value_of (Some (Err o)) = None

-- the value that there is, in place of an ending without one
abbrev pub value_in : Result Data (Option (Result Data Origin)) → Option Data
value_in (Ok d) = Some d
value_in (Err ending) = None

-- the loads that go on from a value, if there is one
abbrev pub loads_of_value : Option Data → (Data → ℕ) → ℕ
loads_of_value None next = 0
loads_of_value (Some d) next = next d

-- the origin of the fault with which a term ends, if it does
abbrev pub origin_of : Option (Result Data Origin) → Option Origin
origin_of None = None
origin_of (Some (Ok d)) = None
origin_of (Some (Err o)) = Some o

module _ (known : Key → Option Outcome) where
  -- ---- a term that goes on from a part

  -- q is the first part of the term t, which waits if q does, and has the fault of q
  pub record IsOver (t q : Tree) : Type 0 where
    pub rest : List Tree
    pub parts : parts_of known t ≡ q ∷ rest
    pub waits : answer known q ≡ None → answer known t ≡ None
    pub fails : (f : EvalFault) → answer known q ≡ Some (Fault f) → answer known t ≡ Some (Fault f)

  -- q has this value, or else t ends so
  abbrev pub EndsInside : Tree → Tree → Result Data (Option (Result Data Origin)) → Type 0
  EndsInside t q (Ok d) = answer known q ≡ Some (Value d)
  EndsInside t q (Err ending) = MayEndWith known t ending

  -- ---- parts that answer together

  -- the term t answers what the trees ts do together, which are its parts but for the first n; these have values
  pub record IsTogether (t : Tree) (j : Joint) (n : ℕ) (ts : List Tree) : Type 0 where
    pub before : List Tree
    pub parts : parts_of known t ≡ before ++ ts
    pub place : length before ≡ n
    pub values : Every (HasValue known) before
    pub gives : answer known t ≡ option_map (joined j) (answers known (trees_of ts))

  -- ---- the ids of an each

  abbrev pub id_answer : Name → JsonValue → Option Answer
  id_answer table id = target_answer known (value_target table (view id))

  -- the load of an id fails so, and the origin is the term's own, which met the id at this place
  pub record FailsAs (term : Term) (table : Name) (place : ℕ) (id : JsonValue) (o : Origin) : Type 0 where
    pub faults : id_answer table id ≡ Some (Fault o.fault)
    pub path : o.path.items ≡ []
    pub part : o.part.now ≡ term
    pub met : (v : JsonValue) × (view v ≡ view id) × (o.met ≡ met.Item place v)

  -- the load of the id at this place has this row, or fails so
  abbrev pub IsItem : Term → Name → ℕ → JsonValue → Result Data Origin → Type 0
  IsItem term table place id (Ok d) = id_answer table id ≡ Some (Value d)
  IsItem term table place id (Err o) = FailsAs term table place id o

  abbrev pub MayBeItem : Term → Name → ℕ → JsonValue → Option (Result Data Origin) → Type 0
  MayBeItem term table place id None = id_answer table id ≡ None
  MayBeItem term table place id (Some ending) = IsItem term table place id ending

  -- the loads of ids, of which the first has this place
  abbrev pub AreItems : Term → Name → ℕ → List JsonValue → List (Result Data Origin) → Type 0
  AreItems term table place [] [] = Unit {0}
  AreItems term table place [] (ending ∷ endings) = ⊥
  AreItems term table place (id ∷ ids) [] = ⊥
  AreItems term table place (id ∷ ids) (ending ∷ endings) = IsItem term table place id ending × AreItems term table (suc place) ids endings

  -- what the loads of ids answer together
  abbrev pub ids_answer : Name → List JsonValue → Option Answer
  ids_answer table ids = option_map gathered (target_answers known (item_targets table (items_view ids)))

  -- the first of the ids whose load has no value fails so
  pub record FailsAtFirst (term : Term) (table : Name) (ids : List JsonValue) (o : Origin) : Type 0 where
    pub whole : ids_answer table ids ≡ Some (Fault o.fault)
    pub before : List JsonValue
    pub id : JsonValue
    pub after : List JsonValue
    pub are : ids ≡ before ++ id ∷ after
    pub values : Every (λ i. (row : Data) × (id_answer table i ≡ Some (Value row))) before
    pub own : FailsAs term table (length before) id o

  -- the loads of ids wait, or together they end so
  abbrev pub AreTogether : Term → Name → List JsonValue → Option (Result Data Origin) → Type 0
  AreTogether term table ids None = ids_answer table ids ≡ None
  AreTogether term table ids (Some (Ok d)) = ids_answer table ids ≡ Some (Value d)
  AreTogether term table ids (Some (Err o)) = FailsAtFirst term table ids o
