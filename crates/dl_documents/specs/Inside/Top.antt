-- The data that the top of a document stands for.
use Rattle.std.specs.Prelude.{◌≡◌, Option, Some, None, codes}
use Rattle.serde_json.specs.Data.{Data, object, Members, put}
use Rattle.serde_json.specs.Find.{as_object, get_member}
use Rattle.serde_json.specs.View.{view}
use Rattle.serde_json.specs.declared.value.Value.{Value}
use Rattle.dl_documents.specs.Inside.Trees.{object_data}
use Rattle.dl_documents.specs.declared.top.Top.{Top}

-- the members, with the value of `tables`, if there is one
abbrev pub with_tables : Option Value → Members → Members
with_tables None ms = ms
with_tables (Some v) ms = put (codes "tables") (view v) ms

abbrev pub top_members : Top → Members
top_members t = with_tables t.tables (object_data t.members.items)

-- the object of the members
abbrev pub top_data : Top → Data
top_data t = object (top_members t)

-- none of the other members is named `tables`
abbrev pub IsApart : Top → Type 0
IsApart t = get_member (codes "tables") (object_data t.members.items) ≡ None

-- a document of this data has this top, and none where it is no object
abbrev pub IsTopOf : Data → Option Top → Type 0
IsTopOf d None = as_object d ≡ None
IsTopOf d (Some t) = (top_data t ≡ d) × IsApart t
