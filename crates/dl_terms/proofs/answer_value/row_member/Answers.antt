use Rattle.std.proofs.Common.{◌∙◌, ap, sym}
use Rattle.serde_json.specs.View.{view}
use Rattle.serde_json.specs.Written.{has_float}
use Rattle.dl_terms.proofs.WholeNumbers.{field_whole}
use Rattle.dl_terms.proofs.answer_value.row_member.Goals as goal

pub returns-in-Some-clause-whole : goal.returns-in-Some-clause-whole
returns-in-Some-clause-whole c =
    field_whole c.args.name.now (view c.value.result.now) (view c.in-Some.value.now) (ap has_float c.value.ensures.tree ∙ c.value.ensures.whole)
    (sym c.in-Some.ensures)
