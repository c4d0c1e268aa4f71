-- The text so far and the rest of the list are the text of the whole list, and so with the members of an object.
use Rattle.std.proofs.Common.{◌≡◌, ◌++◌, Bool, drop, string_bytes}
use Rattle.serde_json.specs.Data.{array, object}
use Rattle.serde_json.specs.View.{items_of}
use Rattle.serde_json.specs.Written.{comma_if, compact_text, items_text, members_text}
use Rattle.dl_terms.specs.Named.{zipped}
use Rattle.dl_terms.proofs.answer_value.+writing.Given as goal

abbrev pub invariant-push_list-loop-value : goal.invariant-push_list-loop-value
invariant-push_list-loop-value l =
    (later : Bool) × (l.before ≡ comma_if later)
    × (string_bytes l.text ++ items_text later (items_of (drop l.value-index l.value-items))
    ≡ string_bytes l.fn.text ++ compact_text (array (items_of l.value-items)))

abbrev pub invariant-push_object-loop-place : goal.invariant-push_object-loop-place
invariant-push_object-loop-place l =
    (later : Bool) × (l.before ≡ comma_if later)
    × (string_bytes l.text ++ members_text later (zipped (drop l.place l.names) (drop l.place l.value-items))
    ≡ string_bytes l.fn.text ++ compact_text (object (zipped l.names l.value-items)))
