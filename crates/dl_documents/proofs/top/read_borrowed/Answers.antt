use Rattle.std.proofs.Common.{◌≡◌, ◌∙◌, true, ap, sym, is_some, option_map}
use Rattle.json.specs.Value.{value_view}
use Rattle.serde_json.specs.Read.{of_json, converted}
use Rattle.dl_documents.proofs.TreeData.{fitting_data}
use Rattle.dl_documents.proofs.top.read_borrowed.Goals as goal

pub returns-in-Ok-clause-ok : goal.returns-in-Ok-clause-ok
returns-in-Ok-clause-ok c =
    let j = value_view c.in-Ok.value in
    let fits : is_some (of_json j) ≡ true = sym c.has_fitting_numbers.ensures ∙ c.if-has_fitting_numbers.true in
    ap (converted of_json) c.in-Ok.ensures.ok ∙ ap (option_map (λ d. (d, c.read.new.reader))) (fitting_data j fits)
