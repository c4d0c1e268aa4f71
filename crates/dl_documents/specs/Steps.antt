-- How steps and plans are spelled in JSON: each has one tree.
use Rattle.std.specs.Prelude.{◌≡◌, ℕ, ◌≤◌, List, length, map, true, codes}
use Rattle.std.specs.List.{AllByRecursion}
use Rattle.serde_json.specs.Data.{Data, null, boolean, string, array, Items}
use Rattle.serde_json.specs.View.{items_of}
use Rattle.dl_values.specs.Key.{Key, IsKey}
use Rattle.dl_values.specs.declared.outcome.Outcome.{Outcome}
use Rattle.dl_values.specs.declared.outcome.Outcome.TheVariants.{Value, KeyError, BatchFailed}
use Rattle.dl_source.specs.Faults.{text_bytes}
use Rattle.dl_terms.specs.Tree.{Tree, height_of}
use Rattle.dl_terms.specs.View.{term_view}
use Rattle.dl_terms.specs.declared.plan.Plan.{Plan}
use Rattle.dl_terms.specs.declared.plan.Step.{Step}
use Rattle.dl_terms.specs.declared.plan.Step.TheVariants as step
use Rattle.dl_documents.specs.Script.{key_tree, one}
use Rattle.dl_documents.specs.Terms.{two, term_tree, IsTerm, IsWhole, has_forms}
use Rattle.dl_documents.specs.declared.forms.Forms.{Forms}

-- ---- what steps say

-- a step, with the tree of its term
pub data StepTree : Type 0 where
  prime : Key → Outcome → StepTree
  clear : Key → StepTree
  clear_all : StepTree
  eval : Tree → StepTree

abbrev pub step_view : Step → StepTree
step_view (step.Prime k o) = prime k o
step_view (step.Clear k) = clear k
step_view step.ClearAll = clear_all
step_view (step.Eval t) = eval (term_view t)

-- the steps of a plan
abbrev pub plan_view : Plan → List StepTree
plan_view p = map step_view p.steps.items

-- ---- trees

-- a value or an error; no document spells the failure of a batch
abbrev pub outcome_tree : Outcome → Data
outcome_tree (Value d) = one (codes "value") d
outcome_tree (KeyError text) = one (codes "error") (string text)
outcome_tree (BatchFailed fault) = null

-- a step is an object with one member, its name, whose value is its argument
abbrev pub step_tree : StepTree → Data
step_tree (prime k o) = one (codes "prime") (two (key_tree k) (outcome_tree o))
step_tree (clear k) = one (codes "clear") (key_tree k)
step_tree clear_all = one (codes "clearAll") (boolean true)
step_tree (eval t) = one (codes "eval") (term_tree t)

-- the list of steps
abbrev pub steps_tree : List StepTree → Items
steps_tree steps = items_of (map step_tree steps)

-- a plan is the list of its steps
abbrev pub plan_tree : List StepTree → Data
plan_tree steps = array (steps_tree steps)

-- the list of plans
abbrev pub plans_tree : List (List StepTree) → Items
plans_tree plans = items_of (map plan_tree plans)

-- ---- steps

-- an outcome that a step primes
abbrev pub IsPrimed : Outcome → Type 0
IsPrimed (Value d) = IsWhole d
IsPrimed (KeyError text) = length text ≤ text_bytes
IsPrimed (BatchFailed fault) = ⊥

-- a step's key is a key, its outcome is one to prime, and its term is a term of these forms
abbrev pub IsPlanStep : Forms → StepTree → Type 0
IsPlanStep forms (prime k o) = IsKey k × IsPrimed o
IsPlanStep forms (clear k) = IsKey k
IsPlanStep forms clear_all = Unit {0}
IsPlanStep forms (eval t) = IsTerm t × (has_forms forms t ≡ true)

-- ---- plans

-- the greatest height of a term
abbrev pub most_height : ℕ
most_height = 32

-- the most steps of a plan
abbrev pub most_steps : ℕ
most_steps = 256

-- a step's term isn't too high
abbrev pub IsLow : StepTree → Type 0
IsLow (eval t) = height_of t ≤ most_height
IsLow step = Unit {0}

-- the steps of a plan are steps, their terms aren't too high, and there aren't too many
pub record IsPlan (forms : Forms) (plan : List StepTree) : Type 0 where
  pub steps : AllByRecursion (IsPlanStep forms) plan
  pub low : AllByRecursion IsLow plan
  pub few : length plan ≤ most_steps
