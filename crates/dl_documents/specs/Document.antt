-- Which trees spell which documents.
use Rattle.std.specs.Prelude.{◌≡◌, ◌⊎◌, ℕ, ℤ, pos, List, length, map, Bool, true, false, not, ◌&&◌, ◌||◌, codes, bytes_eq, is_some, if◌then◌else◌}
use Rattle.std.specs.Prelude.{Option, Some, None, option_and_then, IsUtf8}
use Rattle.std.specs.List.{AllByRecursion}
use Rattle.std.specs.Option.{option_map_or}
use Rattle.std.specs.Ordering.{int_eq}
use Rattle.serde_json.specs.Data.{Data, Items}
use Rattle.serde_json.specs.Find.{get, as_array}
use Rattle.serde_json.specs.Read.{read}
use Rattle.dl_values.specs.Limits.{Limits, IsLimit, largest_limit}
use Rattle.dl_source.specs.Tables.{Tables}
use Rattle.dl_source.specs.Spelling.{has_only, whole}
use Rattle.dl_source.specs.declared.fault.TableFault.{TableFault}
use Rattle.dl_source.specs.declared.table_number.TableNumber.{TableNumber}
use Rattle.dl_terms.specs.Plans.{ArePlans}
use Rattle.dl_documents.specs.Script.{IsScriptCall, calls_tree}
use Rattle.dl_documents.specs.Steps.{IsPlan, plan_view, plans_tree}
use Rattle.dl_documents.specs.OwnLimits.{TableLimits, version_by, own, AreTheirLimits}
use Rattle.dl_documents.specs.TableNumbers.{script_numbers}
use Rattle.dl_documents.specs.Tables.{SpellsNumbers, TableCauses}
use Rattle.dl_documents.specs.declared.forms.Forms.{Forms}
use Rattle.dl_documents.specs.declared.forms.Forms.TheVariants.{Six, Nine}
use Rattle.dl_documents.specs.declared.head.Version.{Version}
use Rattle.dl_documents.specs.declared.head.Version.TheVariants.{First, Second}
use Rattle.dl_documents.specs.declared.input.Input.{Input}
use Rattle.dl_documents.specs.declared.input.Input.TheVariants as input
use Rattle.dl_documents.specs.declared.input.PlanFile.{PlanFile}
use Rattle.dl_documents.specs.declared.input.Script.{Script}

-- the bytes are the JSON text of the tree, in UTF-8
pub record IsTextOf (bytes : List ℕ) (d : Data) : Type 0 where
  pub utf8 : IsUtf8 bytes
  pub read : read bytes ≡ Some d

-- ---- kinds

-- a document with the member `script` is a call script, any other is a plan file
abbrev pub is_script : Data → Bool
is_script d = is_some (get (codes "script") d)

-- the member whose number gives the version
abbrev pub version_name : Data → List ℕ
version_name d = if is_script d then codes "script" else codes "version"

-- the member whose list has the calls or the plans
abbrev pub list_name : Data → List ℕ
list_name d = if is_script d then codes "calls" else codes "plans"

-- ---- versions

-- the whole number that gives the version
abbrev pub version_number : Data → Option ℤ
version_number d = option_and_then whole (get (version_name d) d)

-- whether the version has this number
abbrev pub has_number : ℕ → Data → Bool
has_number n d = option_map_or (int_eq (pos n)) (version_number d) false

-- the forms that a term of the document may have: all nine in a plan file of version 3
abbrev pub forms_of : Data → Forms
forms_of d = if not (is_script d) && has_number 3 d then Nine 0 else Six

-- The document is of the version. But for the forms of terms, a plan file of version 3 is as one of version 2.
abbrev pub IsOfVersion : Data → Version → Type 0
IsOfVersion d First = version_number d ≡ Some (pos 1)
IsOfVersion d Second = (version_number d ≡ Some (pos 2)) ⊎ ((is_script d ≡ false) × (version_number d ≡ Some (pos 3)))

abbrev pub IsOfNoVersion : Data → Type 0
IsOfNoVersion d = (version : Version) → IsOfVersion d version → ⊥

-- ---- members

-- the names of the members of each kind
abbrev pub is_limit_member : List ℕ → Bool
is_limit_member name = bytes_eq name (codes "maxBatchSize") || (bytes_eq name (codes "maxCells") || bytes_eq name (codes "maxCalls"))

-- a script of version 2 has one member more
abbrev pub is_script_member : Version → List ℕ → Bool
is_script_member First name = bytes_eq name (codes "script") || (bytes_eq name (codes "calls") || is_limit_member name)
is_script_member Second name =
    bytes_eq name (codes "script") || (bytes_eq name (codes "calls") || (bytes_eq name (codes "tableLimits") || is_limit_member name))

abbrev pub is_plans_member : List ℕ → Bool
is_plans_member name = bytes_eq name (codes "version") || (bytes_eq name (codes "tables") || (bytes_eq name (codes "plans") || is_limit_member name))

-- whether it is the name of a script's member, or of a plan file's
abbrev pub is_known : Bool → Version → List ℕ → Bool
is_known true version name = is_script_member version name
is_known false version name = is_plans_member name

-- whether each member of an object is one of its kind and version
abbrev pub has_only_known : Version → Data → Bool
has_only_known version d = has_only (is_known (is_script d) version) d

-- the list that a member is
abbrev pub items_at : List ℕ → Data → Option Items
items_at name d = option_and_then as_array (get name d)

abbrev pub whole_or_largest : Option Data → Option ℤ
whole_or_largest None = Some (pos largest_limit)
whole_or_largest (Some d) = whole d

-- the whole number of a limit's member, or the largest limit if there is no such member
abbrev pub number_at : List ℕ → Data → Option ℤ
number_at name d = whole_or_largest (get name d)

-- the member gives the limit n
pub record GivesLimit (name : List ℕ) (d : Data) (n : ℕ) : Type 0 where
  pub number : number_at name d ≡ Some (pos n)
  pub limit : IsLimit n

-- the three members give the limits
pub record GivesLimits (d : Data) (l : Limits) : Type 0 where
  pub batch : GivesLimit (codes "maxBatchSize") d l.max_batch
  pub cells : GivesLimit (codes "maxCells") d l.max_cells
  pub calls : GivesLimit (codes "maxCalls") d l.max_calls

-- the script gives tables these limits of their own
pub record GivesOwn (d : Data) (tables : Option TableLimits) : Type 0 where
  pub given : List TableNumber
  pub numbers : script_numbers (version_by tables) d ≡ Some given
  pub limits : AreTheirLimits given (own tables)

-- the member `tables` gives tables that are not refused, and these limits of their own
pub record GivesTables (d : Data) (tables : Tables) (limited : Option TableLimits) : Type 0 where
  pub tree : Data
  pub member : get (codes "tables") d ≡ Some tree
  pub given : List TableNumber
  pub spelled : SpellsNumbers (version_by limited) tree tables given
  pub lawful : (f : TableFault) → TableCauses (version_by limited) tree f → ⊥
  pub limits : AreTheirLimits given (own limited)

-- ---- documents

-- the tree spells the script, which has limits of tables exactly in version 2
pub record SpellsScript (d : Data) (s : Script) : Type 0 where
  pub kind : is_script d ≡ true
  pub version : IsOfVersion d (version_by s.table_limits)
  pub members : has_only_known (version_by s.table_limits) d ≡ true
  pub list : items_at (codes "calls") d ≡ Some (calls_tree s.calls)
  pub calls : AllByRecursion IsScriptCall s.calls
  pub limits : GivesLimits d s.limits
  pub own : GivesOwn d s.table_limits

-- the tree spells the plan file, which has limits of tables exactly from version 2 on
pub record SpellsPlans (d : Data) (f : PlanFile) : Type 0 where
  pub kind : is_script d ≡ false
  pub version : IsOfVersion d (version_by f.table_limits)
  pub members : has_only_known (version_by f.table_limits) d ≡ true
  pub list : items_at (codes "plans") d ≡ Some (plans_tree (map plan_view f.plans.items))
  pub count : ArePlans (length f.plans.items)
  pub plans : AllByRecursion (IsPlan (forms_of d)) (map plan_view f.plans.items)
  pub tables : GivesTables d f.tables f.table_limits
  pub limits : GivesLimits d f.limits

-- the tree spells what was read
abbrev pub Spells : Data → Input → Type 0
Spells d (input.Script s) = SpellsScript d s
Spells d (input.Plans f) = SpellsPlans d f
