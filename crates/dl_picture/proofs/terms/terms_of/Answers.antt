use Rattle.std.proofs.Common.{◌∙◌, ap, map, arith}
use Rattle.std.proofs.lemmas.List.{take_all}
use Rattle.dl_terms.specs.View.{term_view}
use Rattle.dl_picture.specs.TermLoads.{plan_terms}
use Rattle.dl_picture.proofs.TermLoads.{map_next}
use Rattle.dl_picture.proofs.terms.terms_of.Goals as goal

pub loop-plan-preserved : goal.loop-plan-preserved
loop-plan-preserved c =
    map_next plan_terms (λ ts. map term_view ts.items) c.args.plans.now c.loop-plan.plan-index c.plan-item.result c.loop-plan-test.true c.plan-item.is
    c.loop-plan.copies.items c.push.new.self.items c.in_ok-terms_of_plan.field-0 c.in_ok-push.ensures.items c.loop-plan.invariant c.in_ok-terms_of_plan.ensures

pub returns : goal.returns
returns c = c.loop-plan.invariant ∙ ap (map plan_terms) (take_all c.loop-plan.plan-index c.args.plans.now (omega (arith, c.loop-plan-test.false)))
