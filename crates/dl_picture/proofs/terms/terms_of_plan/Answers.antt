use Rattle.std.proofs.Common.{◌∙◌, ap, map, arith}
use Rattle.std.specs.Prelude.{flat_map}
use Rattle.std.proofs.lemmas.List.{take_all}
use Rattle.dl_terms.specs.View.{term_view}
use Rattle.dl_picture.specs.TermLoads.{step_terms}
use Rattle.dl_picture.proofs.TermLoads.{flat_next}
use Rattle.dl_picture.proofs.terms.terms_of_plan.Goals as goal

pub loop-step-preserved : goal.loop-step-preserved
loop-step-preserved c =
    flat_next step_terms c.deref-step-items.result.now c.loop-step.step-index c.step-item.result c.loop-step-test.true c.step-item.is
    (map term_view c.loop-step.copies.items) (map term_view c.push_term.new.copies.items) c.loop-step.invariant c.in_ok-push_term.ensures

pub returns : goal.returns
returns c =
    c.loop-step.invariant
    ∙ ap (flat_map step_terms) (take_all c.loop-step.step-index c.deref-step-items.result.now (omega (arith, c.loop-step-test.false)) ∙ c.deref-step-items.ensures.value)
