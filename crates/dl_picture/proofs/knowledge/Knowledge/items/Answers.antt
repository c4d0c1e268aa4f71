use Rattle.std.proofs.Common.{◌≡◌, ◌∙◌, Some, ap, sym, arith}
use Rattle.serde_json.specs.View.{items_of}
use Rattle.serde_json.specs.Find.{as_array}
use Rattle.std.specs.Option.{option_map}
use Rattle.dl_terms.proofs.Bodies.{over_few, over_many}
use Rattle.dl_picture.proofs.knowledge.Knowledge.items.Goals as goal

pub returns-then-len-gt-MOST_ITEMS : goal.returns-then-len-gt-MOST_ITEMS
returns-then-len-gt-MOST_ITEMS c =
    let is : Some (items_of c.in-Some.items.items) ≡ as_array c.args.value =
    sym (ap (option_map (λ vs. items_of vs.items)) c.in-Some.is) ∙ c.in_ok-into_items.ensures in
    sym (over_many c.args.value c.in-Some.items.items is (omega (arith, c.len.ensures, c.in-Some.items.ok.0, c.if-len-gt-MOST_ITEMS.true)))

pub returns-else-len-gt-MOST_ITEMS : goal.returns-else-len-gt-MOST_ITEMS
returns-else-len-gt-MOST_ITEMS c =
    let is : Some (items_of c.in-Some.items.items) ≡ as_array c.args.value =
    sym (ap (option_map (λ vs. items_of vs.items)) c.in-Some.is) ∙ c.in_ok-into_items.ensures in
    sym (over_few c.args.value c.in-Some.items.items is (omega (arith, c.len.ensures, c.in-Some.items.ok.0, c.if-len-gt-MOST_ITEMS.false)))
