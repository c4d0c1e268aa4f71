-- The copies so far are those of the values so far, with no float.
use Rattle.std.proofs.Common.{◌≡◌, false, map, take}
use Rattle.serde_json.specs.View.{view, items_view}
use Rattle.serde_json.specs.Written.{items_have_float}
use Rattle.dl_terms.proofs.answer_value.+copying.Given as goal

abbrev pub invariant-copies-loop-value : goal.invariant-copies-loop-value
invariant-copies-loop-value l = record {
  trees : map view l.copies.items ≡ take l.value-index l.value-items;
  whole : items_have_float (items_view l.copies.items) ≡ false;
}
