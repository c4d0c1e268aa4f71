-- A member in the list of an object's members.
use Rattle.std.specs.Prelude.{◌≡◌, ℕ, List, Some}
use Rattle.std.specs.Borrow.{Bor}
use Rattle.std.specs.declared.alloc.Global.{Global}
use Rattle.std.specs.List.{slice_get}
use Rattle.json.specs.declared.value.Value.{Value}
use Rattle.serde_json.specs.Find.{get_member}
use Rattle.dl_documents.specs.Inside.Trees.{tree_data, object_data}

-- the member at the place has the name, and its value is the one that the object has there
pub record IsPlaceOf (name : List ℕ) (ms : List (Bor (List ℕ) × Value Global)) (place : ℕ) : Type 0 where
  pub member : Bor (List ℕ) × Value Global
  pub there : slice_get ms place ≡ Some member
  pub named : member.0.now ≡ name
  pub value : get_member name (object_data ms) ≡ Some (tree_data member.1)
