-- The tree of a value that an answer gives.
use Rattle.std.specs.Prelude.{Bool, true, ◌&&◌, nat_eq, length}
use Rattle.serde_json.specs.Data.{Data, array, object}
use Rattle.serde_json.specs.View.{items_of}
use Rattle.dl_terms.specs.declared.answer_value.Shape.{Shape}
use Rattle.dl_terms.specs.declared.answer_value.Shape.TheVariants.{Row, List, Object}
use Rattle.dl_terms.specs.Joined.{members_with}
use Rattle.dl_terms.specs.Named.{are_ascending}

abbrev pub tree_of : Shape → Data
tree_of (Row d) = d
tree_of (List values) = array (items_of values.items)
tree_of (Object names values) = object (members_with names (items_of values.items))

-- the names of an object ascend and are as many as its values
abbrev pub is_in_form : Shape → Bool
is_in_form (Row d) = true
is_in_form (List values) = true
is_in_form (Object names values) = are_ascending names && nat_eq (length names) (length values.items)
