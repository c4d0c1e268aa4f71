use Rattle.std.proofs.Common.{◌≡◌, ◌∙◌, false, is_some, ap, sym}
use Rattle.std.specs.List.{list_all}
use Rattle.dl_terms.specs.Node.{joint_of, node_view, nodes_view, result_of, results_of}
use Rattle.dl_terms.proofs.Views.{node_view-Parts}
use Rattle.dl_terms.proofs.PartAnswers.{all_ended, joins_none}
use Rattle.dl_terms.proofs.joining.put_together.Goals as goal

pub answer_all-requires : goal.answer_all-requires
answer_all-requires c =
    sym (all_ended c.args.parts.items) ∙ (ap (list_all (λ n. is_some (result_of (node_view n)))) (sym c.as_slice.ensures.value)
    ∙ (sym c.have_ended.ensures ∙ c.if-have_ended.true))

pub returns-else-have_ended : goal.returns-else-have_ended
returns-else-have_ended c =
    let none : is_some (results_of (nodes_view c.args.parts.items)) ≡ false =
    sym (all_ended c.args.parts.items) ∙ (ap (list_all (λ n. is_some (result_of (node_view n)))) (sym c.as_slice.ensures.value)
    ∙ (sym c.have_ended.ensures ∙ c.if-have_ended.false)) in
    joins_none (joint_of c.args.by) (nodes_view c.args.parts.items) _ none (node_view-Parts c.args.parts c.args.by)
