-- What is read of a document of either kind.
use Rattle.std.specs.Prelude.{◌≡◌, ◌⊎◌, true, Option, None}
use Rattle.serde_json.specs.Data.{Data}
use Rattle.dl_documents.specs.Document.{IsOfVersion, forms_of, has_only_known}
use Rattle.dl_documents.specs.Faults.{Causes, IsLeast}
use Rattle.dl_documents.specs.Numbers.{AreGiven}
use Rattle.dl_documents.specs.declared.fault.PlanFault.{PlanFault}
use Rattle.dl_documents.specs.declared.fault.PlanFault.TheVariants.{NotJson, OutOfMemory}
use Rattle.dl_documents.specs.declared.head.Head.{Head}

-- it is of the version, its terms may have the forms, its members are those of its kind and version, and its limits are
-- given by the numbers
pub record HasHead (d : Data) (h : Head) : Type 0 where
  pub version : IsOfVersion d h.version
  pub forms : h.forms ≡ forms_of d
  pub members : has_only_known h.version d ≡ true
  pub numbers : AreGiven d h.numbers

-- Memory may run out before the cause is found.
abbrev pub RefusedFor : Data → PlanFault → Type 0
RefusedFor d f = (f ≡ OutOfMemory) ⊎ IsLeast (Causes d) f

-- Nothing is there to be read, or memory may run out before that is seen.
abbrev pub IsUnread : {A : Type 0} → Option A → PlanFault → Type 0
IsUnread there f = (f ≡ OutOfMemory) ⊎ ((f ≡ NotJson) × (there ≡ None))
