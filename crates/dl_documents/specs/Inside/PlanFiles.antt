-- What is read of a plan file.
use Rattle.std.specs.Prelude.{◌≡◌, ◌⊎◌, ℕ, ◌<◌, ◌≤◌, List, length, map, Bool, false, nat_lt, codes, Option, Some, None, Vec}
use Rattle.std.specs.declared.alloc.Global.{Global}
use Rattle.std.specs.List.{AllByRecursion, slice_get}
use Rattle.serde_json.specs.Data.{Data, array, Items}
use Rattle.serde_json.specs.Find.{as_array, get}
use Rattle.json.specs.declared.value.Value.{Value}
use Rattle.serde_json.specs.View.{items_of}
use Rattle.dl_values.specs.Limits.{Limits}
use Rattle.dl_source.specs.Tables.{Tables}
use Rattle.dl_source.specs.declared.fault.TableFault.{TableFault}
use Rattle.dl_source.specs.declared.table_number.TableNumber.{TableNumber}
use Rattle.dl_terms.specs.Plans.{ArePlans}
use Rattle.dl_terms.specs.Tree.{height_of}
use Rattle.dl_documents.specs.Document.{items_at}
use Rattle.dl_documents.specs.Faults.{IsNoStep}
use Rattle.dl_documents.specs.Inside.Places.{IsFirst, IsFirstIn}
use Rattle.dl_documents.specs.Inside.Trees.{tree_data}
use Rattle.dl_documents.specs.Inside.OwnLimits.{AreAllLimits, IsRefusedNumber}
use Rattle.dl_documents.specs.OwnLimits.{TableLimits}
use Rattle.dl_documents.specs.Steps.{StepTree, eval, step_tree, IsPlanStep, IsLow, most_height, most_steps}
use Rattle.dl_documents.specs.declared.fault.PlanFault.{PlanFault}
use Rattle.dl_documents.specs.declared.fault.PlanFault.TheVariants.{Shape, TooDeep, TooManySteps, Table}
use Rattle.dl_documents.specs.declared.forms.Forms.{Forms}
use Rattle.dl_documents.specs.declared.head.Head.{Head}
use Rattle.dl_documents.specs.declared.head.Version.{Version}
use Rattle.dl_documents.specs.Tables.{SpellsNumbers, TableCauses, IsTableFault}

-- ---- the top

abbrev pub row_tree : List Data → Data
row_tree ds = array (items_of ds)

-- the list of lists
abbrev pub rows_tree : List (List Data) → Items
rows_tree rows = items_of (map row_tree rows)

-- lists of trees, as lists of their data
abbrev pub rows_view : List (Vec (Value Global) Global) → List (List Data)
rows_view lists = map (λ l. map tree_data l.items) lists

-- the document has this list of plans and this member `tables`
pub record HasLists (d : Data) (plans : Items) (tree : Data) : Type 0 where
  pub list : items_at (codes "plans") d ≡ Some plans
  pub tables : get (codes "tables") d ≡ Some tree

-- the document has 1 to 16 plans, which are these lists, and this member `tables`
pub record HasPlans (d : Data) (rows : List (List Data)) (tree : Data) : Type 0 where
  pub list : items_at (codes "plans") d ≡ Some (rows_tree rows)
  pub count : ArePlans (length rows)
  pub tables : get (codes "tables") d ≡ Some tree

-- the trees are these lists
abbrev pub AreRows : List Data → List (List Data) → Type 0
AreRows ds rows = ds ≡ map row_tree rows

-- one of the trees is no list
abbrev pub HasOther : List Data → Type 0
HasOther ds = (n : ℕ) × (d : Data) × (slice_get ds n ≡ Some d) × (as_array d ≡ None)

-- ---- steps

-- the trees spell the steps, whose terms have these forms
pub record IsPlanOf (forms : Forms) (ds : List Data) (plan : List StepTree) : Type 0 where
  pub trees : ds ≡ map step_tree plan
  pub steps : AllByRecursion (IsPlanStep forms) plan

-- the lists of trees spell the steps of each plan
pub record AreRead (forms : Forms) (rows : List (List Data)) (plans : List (List StepTree)) : Type 0 where
  pub trees : rows ≡ map (map step_tree) plans
  pub steps : AllByRecursion (AllByRecursion (IsPlanStep forms)) plans

-- the fault names the first tree of a plan that spells no step
pub record IsFirstBadIn (forms : Forms) (plan : ℕ) (ds : List Data) (f : PlanFault) : Type 0 where
  pub step : ℕ
  pub names : f ≡ Shape plan step
  pub first : IsFirst (IsNoStep forms) ds step

-- the fault names the first tree of all plans that spells no step
pub record IsFirstBadStep (forms : Forms) (rows : List (List Data)) (f : PlanFault) : Type 0 where
  pub plan : ℕ
  pub step : ℕ
  pub names : f ≡ Shape plan step
  pub first : IsFirstIn (IsNoStep forms) rows plan step

-- ---- heights and numbers of steps

abbrev pub is_high : StepTree → Bool
is_high (eval t) = nat_lt most_height (height_of t)
is_high step = false

abbrev pub is_long : List StepTree → Bool
is_long steps = nat_lt most_steps (length steps)

-- a step whose term is too high
abbrev pub IsHigh : StepTree → Type 0
IsHigh (eval t) = most_height < height_of t
IsHigh step = ⊥

-- no term of the plan is too high
abbrev pub AreLow : List StepTree → Type 0
AreLow steps = AllByRecursion IsLow steps

-- the plan hasn't too many steps
abbrev pub AreFew : List StepTree → Type 0
AreFew steps = length steps ≤ most_steps

abbrev pub AreMany : List StepTree → Type 0
AreMany steps = most_steps < length steps

-- no plan is refused
pub record Fit (plans : List (List StepTree)) : Type 0 where
  pub low : AllByRecursion AreLow plans
  pub few : AllByRecursion AreFew plans

-- the fault names the first term that is too high
pub record IsFirstHigh (plans : List (List StepTree)) (f : PlanFault) : Type 0 where
  pub plan : ℕ
  pub step : ℕ
  pub names : f ≡ TooDeep plan step
  pub first : IsFirstIn IsHigh plans plan step

-- no term is too high, and the fault names the first plan that has too many steps
pub record IsFirstLong (plans : List (List StepTree)) (f : PlanFault) : Type 0 where
  pub plan : ℕ
  pub names : f ≡ TooManySteps plan
  pub low : AllByRecursion AreLow plans
  pub first : IsFirst AreMany plans plan

abbrev pub IsMisfit : List (List StepTree) → PlanFault → Type 0
IsMisfit plans f = IsFirstHigh plans f ⊎ IsFirstLong plans f

-- ---- tables and limits

-- the tree spells the tables with their numbers as the version has them, and nothing is refused
pub record AreTables (version : Version) (tree : Data) (tables : Tables) (ns : List TableNumber) : Type 0 where
  pub spelled : SpellsNumbers version tree tables ns
  pub lawful : (f : TableFault) → TableCauses version tree f → ⊥

-- the tree is refused as tables
pub record IsTableRefusal (version : Version) (tree : Data) (f : PlanFault) : Type 0 where
  pub fault : TableFault
  pub names : f ≡ Table fault
  pub least : IsTableFault version tree fault

-- the plans fit, the tree spells the tables, and the numbers are the limits
pub record AreRest (plans : List (List StepTree)) (tree : Data) (h : Head) (p : Tables × Limits × Option TableLimits) : Type 0 where
  pub fit : Fit plans
  pub numbers : List TableNumber
  pub tables : AreTables h.version tree p.0 numbers
  pub limits : AreAllLimits h numbers (p.1, p.2)

-- the plans fit, and the tree is refused as tables
pub record IsBadTables (plans : List (List StepTree)) (tree : Data) (h : Head) (f : PlanFault) : Type 0 where
  pub fit : Fit plans
  pub refused : IsTableRefusal h.version tree f

-- the plans fit, the tree spells tables, and a number is refused
pub record HasRefusedNumber (plans : List (List StepTree)) (tree : Data) (h : Head) (f : PlanFault) : Type 0 where
  pub fit : Fit plans
  pub tables : Tables
  pub numbers : List TableNumber
  pub spelled : AreTables h.version tree tables numbers
  pub refused : IsRefusedNumber h.numbers numbers f

-- the plans, the tree or a number is refused, the first of them
abbrev pub IsRefusal : List (List StepTree) → Data → Head → PlanFault → Type 0
IsRefusal plans tree h f = IsMisfit plans f ⊎ (IsBadTables plans tree h f ⊎ HasRefusedNumber plans tree h f)
