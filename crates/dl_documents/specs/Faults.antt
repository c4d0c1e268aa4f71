-- When a document is refused, and which of several causes counts.
use Rattle.std.specs.Prelude.{◌≡◌, ◌⊎◌, ℕ, ◌<◌, ℤ, pos, List, length, true, false, codes, Some, None}
use Rattle.std.specs.List.{slice_get}
use Rattle.serde_json.specs.Data.{Data, array, Items}
use Rattle.serde_json.specs.Events.{items_len}
use Rattle.serde_json.specs.Find.{as_array, get, get_item}
use Rattle.dl_values.specs.Limits.{IsLimit}
use Rattle.dl_values.specs.declared.fault.LimitFault.{LimitFault}
use Rattle.dl_values.specs.declared.fault.LimitFault.TheVariants.{BatchLimit, CellLimit, CallLimit}
use Rattle.dl_source.specs.Faults as table
use Rattle.dl_source.specs.Tables.{Tables}
use Rattle.dl_source.specs.declared.fault.TableFault.{TableFault}
use Rattle.dl_source.specs.declared.table_number.TableNumber.{TableNumber}
use Rattle.dl_terms.specs.Plans.{ArePlans}
use Rattle.dl_terms.specs.Tree.{Tree, height_of}
use Rattle.dl_documents.specs.Script.{call_tree, IsScriptCall}
use Rattle.dl_documents.specs.Steps.{StepTree, eval, step_tree, IsPlanStep, most_height, most_steps}
use Rattle.dl_documents.specs.Document.{IsTextOf, IsOfVersion, IsOfNoVersion, forms_of, has_only_known, is_script, items_at, list_name, number_at}
use Rattle.dl_documents.specs.TableNumbers.{script_numbers}
use Rattle.dl_documents.specs.Tables.{SpellsNumbers, TableCauses}
use Rattle.dl_documents.specs.declared.fault.PlanFault.{PlanFault}
use Rattle.dl_documents.specs.declared.fault.PlanFault.TheVariants as fault
use Rattle.dl_documents.specs.declared.fault.PlanFault.TheVariants.{TooLarge, NotJson, Top, BadCall}
use Rattle.dl_documents.specs.declared.fault.PlanFault.TheVariants.{Shape, TooDeep, TooManySteps, Table, Limit, OutOfMemory}
use Rattle.dl_documents.specs.declared.forms.Forms.{Forms}
use Rattle.dl_documents.specs.declared.head.Version.{Version}
use Rattle.dl_desk.specs.declared.call.DeskCall.{DeskCall}

-- ---- causes at the top

-- the member of each limit
abbrev pub limit_name : LimitFault → List ℕ
limit_name BatchLimit = codes "maxBatchSize"
limit_name CellLimit = codes "maxCells"
limit_name CallLimit = codes "maxCalls"

-- The members aren't those of a document of its kind and version: there is a strange one, no list of calls or plans, no
-- tables or no list of 1 to 16 lists in a plan file, a limit that isn't a whole number, or no list of tables' numbers
-- in a script.
pub data IsBadTop (d : Data) : Type 0 where
  HasStrange : (version : Version) → IsOfVersion d version → has_only_known version d ≡ false → IsBadTop d
  LacksList : items_at (list_name d) d ≡ None → IsBadTop d
  LacksTables : is_script d ≡ false → get (codes "tables") d ≡ None → IsBadTop d
  HasOtherCount : (ds : Items) → is_script d ≡ false → items_at (codes "plans") d ≡ Some ds → (ArePlans (items_len ds) → ⊥) → IsBadTop d
  HasNoPlan : (ds : Items) (n : ℕ) (plan : Data) → is_script d ≡ false → items_at (codes "plans") d ≡ Some ds → get_item n ds ≡ Some plan
      → as_array plan ≡ None → IsBadTop d
  HasNoNumber : (l : LimitFault) → number_at (limit_name l) d ≡ None → IsBadTop d
  HasNoNumbers : (version : Version) → is_script d ≡ true → IsOfVersion d version → script_numbers version d ≡ None → IsBadTop d

-- ---- causes in calls

-- the tree spells no call
abbrev pub IsNoCall : Data → Type 0
IsNoCall d = (c : DeskCall) → IsScriptCall c → d ≡ call_tree c → ⊥

-- item n of the list is no call
pub record IsBadAt (ds : Items) (n : ℕ) : Type 0 where
  pub tree : Data
  pub there : get_item n ds ≡ Some tree
  pub no_call : IsNoCall tree

-- item n of the document's calls is no call
pub record IsBadCall (d : Data) (n : ℕ) : Type 0 where
  pub items : Items
  pub list : items_at (codes "calls") d ≡ Some items
  pub bad : IsBadAt items n

-- ---- causes in plans

-- plan n of the document is this list
pub record IsPlanAt (d : Data) (n : ℕ) (steps : Items) : Type 0 where
  pub plans : Items
  pub list : items_at (codes "plans") d ≡ Some plans
  pub there : get_item n plans ≡ Some (array steps)

-- step s of plan n of the document is this tree
pub record IsStepAt (d : Data) (n s : ℕ) (step : Data) : Type 0 where
  pub steps : Items
  pub plan : IsPlanAt d n steps
  pub there : get_item s steps ≡ Some step

-- the tree spells no step whose term has only these forms
abbrev pub IsNoStep : Forms → Data → Type 0
IsNoStep forms d = (s : StepTree) → IsPlanStep forms s → d ≡ step_tree s → ⊥

-- the tree spells a step whose term has only these forms, and is too high
pub record IsTooDeep (forms : Forms) (d : Data) : Type 0 where
  pub term : Tree
  pub is : IsPlanStep forms (eval term)
  pub spelled : d ≡ step_tree (eval term)
  pub high : most_height < height_of term

-- step s of plan n is no step
abbrev pub IsBadStep : Data → ℕ → ℕ → Type 0
IsBadStep d n s = (step : Data) × IsStepAt d n s step × IsNoStep (forms_of d) step

-- the term of step s of plan n is too high
abbrev pub IsDeepStep : Data → ℕ → ℕ → Type 0
IsDeepStep d n s = (step : Data) × IsStepAt d n s step × IsTooDeep (forms_of d) step

-- plan n has too many steps
abbrev pub IsLongPlan : Data → ℕ → Type 0
IsLongPlan d n = (steps : Items) × IsPlanAt d n steps × (most_steps < items_len steps)

-- the member `tables` has the fault
pub record IsBadTable (d : Data) (f : TableFault) : Type 0 where
  pub version : Version
  pub is : IsOfVersion d version
  pub tree : Data
  pub member : get (codes "tables") d ≡ Some tree
  pub cause : TableCauses version tree f

-- ---- causes in limits

-- a number that isn't a limit
abbrev pub IsOutside : ℤ → Type 0
IsOutside z = (n : ℕ) → IsLimit n → z ≡ pos n → ⊥

-- the member is a whole number that isn't a limit
pub record IsBadLimit (name : List ℕ) (d : Data) : Type 0 where
  pub given : ℤ
  pub number : number_at name d ≡ Some given
  pub outside : IsOutside given

-- the document gives tables these numbers: a script in a list of its own, a plan file in its tables
pub data GivesNumbers (d : Data) (ns : List TableNumber) : Type 0 where
  InScript : (version : Version) → is_script d ≡ true → IsOfVersion d version → script_numbers version d ≡ Some ns → GivesNumbers d ns
  InTables : (version : Version) (tree : Data) (tables : Tables) → is_script d ≡ false → IsOfVersion d version → get (codes "tables") d ≡ Some tree
      → SpellsNumbers version tree tables ns → GivesNumbers d ns

-- one of the numbers isn't a limit
abbrev pub HasOutside : List TableNumber → Type 0
HasOutside ns = (k : ℕ) × (n : TableNumber) × (slice_get ns k ≡ Some n) × IsOutside n.number

-- the number at the top isn't a limit or, for the limit of a batch, a table's number isn't one
pub data IsBadNumber (d : Data) (l : LimitFault) : Type 0 where
  AtTop : IsBadLimit (limit_name l) d → IsBadNumber d l
  OfTable : l ≡ BatchLimit → (ns : List TableNumber) → GivesNumbers d ns → HasOutside ns → IsBadNumber d l

-- ---- causes

-- what in a document's tree causes a refusal
abbrev pub Causes : Data → PlanFault → Type 0
Causes d TooLarge = ⊥
Causes d NotJson = ⊥
Causes d fault.Version = IsOfNoVersion d
Causes d Top = IsBadTop d
Causes d (BadCall n) = IsBadCall d n
Causes d (Shape n s) = IsBadStep d n s
Causes d (TooDeep n s) = IsDeepStep d n s
Causes d (TooManySteps n) = IsLongPlan d n
Causes d (Table f) = IsBadTable d f
Causes d (Limit l) = IsBadNumber d l
Causes d OutOfMemory = ⊥

-- a cause in what is read in place of the tree whose text the bytes are
pub record CausesIn (reading : Data → Data) (bytes : List ℕ) (f : PlanFault) : Type 0 where
  pub tree : Data
  pub text : IsTextOf bytes tree
  pub cause : Causes (reading tree) f

-- the most bytes of a document
abbrev pub most_bytes : ℕ
most_bytes = 1048576

-- the refusal has a cause in the bytes, if their tree is read so
abbrev pub AppliesTo : (Data → Data) → List ℕ → PlanFault → Type 0
AppliesTo reading bytes TooLarge = most_bytes < length bytes
AppliesTo reading bytes NotJson = (d : Data) → IsTextOf bytes d → ⊥
AppliesTo reading bytes fault.Version = CausesIn reading bytes fault.Version
AppliesTo reading bytes Top = CausesIn reading bytes Top
AppliesTo reading bytes (BadCall n) = CausesIn reading bytes (BadCall n)
AppliesTo reading bytes (Shape n s) = CausesIn reading bytes (Shape n s)
AppliesTo reading bytes (TooDeep n s) = CausesIn reading bytes (TooDeep n s)
AppliesTo reading bytes (TooManySteps n) = CausesIn reading bytes (TooManySteps n)
AppliesTo reading bytes (Table f) = CausesIn reading bytes (Table f)
AppliesTo reading bytes (Limit l) = CausesIn reading bytes (Limit l)
AppliesTo reading bytes OutOfMemory = ⊥

-- the same, if their tree is read as it is
abbrev pub Applies : List ℕ → PlanFault → Type 0
Applies = AppliesTo (λ d. d)

-- ---- the order of refusals

abbrev pub limit_number : LimitFault → ℕ
limit_number BatchLimit = 1
limit_number CellLimit = 2
limit_number CallLimit = 3

-- the numbers of refusals
abbrev pub number : PlanFault → ℕ
number TooLarge = 1
number NotJson = 2
number fault.Version = 3
number Top = 4
number (BadCall n) = 5
number (Shape n s) = 6
number (TooDeep n s) = 7
number (TooManySteps n) = 8
number (Table f) = 9
number (Limit l) = 10
number OutOfMemory = 11

-- the place of a refusal among those of its number: its call or plan, and then its step
abbrev pub place : PlanFault → ℕ × ℕ
place TooLarge = (0, 0)
place NotJson = (0, 0)
place fault.Version = (0, 0)
place Top = (0, 0)
place (BadCall n) = (n, 0)
place (Shape n s) = (n, s)
place (TooDeep n s) = (n, s)
place (TooManySteps n) = (n, 0)
place (Table f) = (table.number f, 0)
place (Limit l) = (limit_number l, 0)
place OutOfMemory = (0, 0)

-- a place comes before another: by its first number, and then by its second
abbrev pub IsEarlier : ℕ × ℕ → ℕ × ℕ → Type 0
IsEarlier p q = (p.0 < q.0) ⊎ ((p.0 ≡ q.0) × (p.1 < q.1))

-- the refusal f comes before g: by its number, and then by its place
abbrev pub IsBefore : PlanFault → PlanFault → Type 0
IsBefore f g = (number f < number g) ⊎ ((number f ≡ number g) × IsEarlier (place f) (place g))

-- of the refusals that apply, f is one, and none comes before it
pub record IsLeast (P : PlanFault → Type 0) (f : PlanFault) : Type 0 where
  pub applies : P f
  pub first : (g : PlanFault) → P g → IsBefore g f → ⊥
