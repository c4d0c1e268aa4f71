use Rattle.std.proofs.Common.{◌∙◌, ap, arith}
use Rattle.serde_json.specs.View.{items_view}
use Rattle.serde_json.specs.Written.{items_have_float}
use Rattle.dl_terms.proofs.AnswerParts.{copied_next, list_below, object_below}
use Rattle.dl_terms.proofs.WholeNumbers.{items_whole}
use Rattle.dl_terms.proofs.answer_value.+copying.Goals as goal

pub copies-loop-value-preserved : goal.copies-loop-value-preserved
copies-loop-value-preserved t c =
    let h = c.loop-value.invariant in
    let copies = c.loop-value.copies.items in
    let copy = c.in_ok-copy.field-0 in
    let pushed = c.in_ok-push.ensures.items in
    record {
      trees = copied_next c.deref-value-items.result.now c.loop-value.value-index c.value-item.result c.loop-value-test.true c.value-item.is copies
          c.push.new.self.items copy h.trees pushed c.in_ok-copy.ensures.tree;
      whole = ap (λ vs. items_have_float (items_view vs)) pushed ∙ items_whole copies copy h.whole c.in_ok-copy.ensures.whole;
    }

pub copy-copies-requires : goal.copy-copies-requires
copy-copies-requires t c =
    let below = list_below c.value.inside.shape c.in-List.values c.args.value.now c.in-List.is c.value.view_is in
    (omega (arith, c.decreases, below), tt)

pub copy-copies-requires-in-Object : goal.copy-copies-requires-in-Object
copy-copies-requires-in-Object t c =
    let below =
    object_below c.value.inside.shape c.in-Object.names c.in-Object.values c.args.value.now c.in-Object.is c.value.invariant c.value.view_is in
    (omega (arith, c.decreases, below), tt)
