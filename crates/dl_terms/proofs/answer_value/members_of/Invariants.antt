-- The members are those of the values that are gone, and none has a float.
use Rattle.std.proofs.Common.{◌≡◌, List, ◌++◌, drop, length, false, vec_len}
use Rattle.serde_json.specs.View.{items_view, members_view}
use Rattle.serde_json.specs.Written.{items_have_float, members_have_float}
use Rattle.serde_json.specs.declared.value.Value.{Value}
use Rattle.dl_terms.specs.Joined.{members_with}
use Rattle.dl_terms.proofs.answer_value.members_of.Given as goal

abbrev pub invariant-loop-value : goal.invariant-loop-value
invariant-loop-value l =
    (done : List Value) × (l.fn.values.items ≡ l.values.items ++ done)
    × (members_view l.members.entries ≡ members_with (drop (length l.values.items) l.names) (items_view done))
    × (members_have_float (members_view l.members.entries) ≡ false) × (items_have_float (items_view l.values.items) ≡ false)

abbrev pub decreases-loop-value : goal.decreases-loop-value
decreases-loop-value l = vec_len l.values
