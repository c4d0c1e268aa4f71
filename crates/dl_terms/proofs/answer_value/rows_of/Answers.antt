use Rattle.std.proofs.Common.{◌∙◌, ap}
use Rattle.serde_json.specs.View.{items_view}
use Rattle.serde_json.specs.Written.{has_float, items_have_float}
use Rattle.dl_terms.proofs.AnswerParts.{item_whole}
use Rattle.dl_terms.proofs.answer_value.rows_of.Goals as goal

pub new-requires : goal.new-requires
new-requires c =
    ap has_float c.in_ok-clone.ensures.cases
    ∙ item_whole c.deref-item-items.result.now c.loop-item.item-index c.item-item.result c.loop-item-test.true c.item-item.is
    (ap (λ vs. items_have_float (items_view vs)) c.deref-item-items.ensures.value ∙ c.requires)
