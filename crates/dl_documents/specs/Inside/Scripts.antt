-- What is read of a call script.
use Rattle.std.specs.Prelude.{◌≡◌, ℕ, List, map}
use Rattle.std.specs.List.{AllByRecursion}
use Rattle.serde_json.specs.Data.{Data}
use Rattle.dl_documents.specs.Script.{call_tree, IsScriptCall}
use Rattle.dl_documents.specs.Faults.{IsNoCall}
use Rattle.dl_documents.specs.Inside.Places.{IsFirst}
use Rattle.dl_documents.specs.declared.fault.PlanFault.{PlanFault}
use Rattle.dl_documents.specs.declared.fault.PlanFault.TheVariants.{BadCall}
use Rattle.dl_desk.specs.declared.call.DeskCall.{DeskCall}

-- the trees spell the calls
pub record AreCalls (ds : List Data) (cs : List DeskCall) : Type 0 where
  pub trees : ds ≡ map call_tree cs
  pub calls : AllByRecursion IsScriptCall cs

-- the fault names the first tree that spells none
pub record IsFirstBadCall (ds : List Data) (f : PlanFault) : Type 0 where
  pub call : ℕ
  pub names : f ≡ BadCall call
  pub first : IsFirst IsNoCall ds call
