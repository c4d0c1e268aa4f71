use Rattle.std.proofs.Common.{refl, sym, ◌∙◌}
use Rattle.dl_documents.specs.Steps.{plan_view, IsLow}
use Rattle.dl_documents.specs.Inside.PlanFiles.{IsHigh}
use Rattle.dl_documents.proofs.Heights.{not_low, first_high_place, no_high_place}
use Rattle.dl_documents.proofs.Positions.{good_more, bad_row}
use Rattle.dl_documents.proofs.plan_files.too_deep.Goals as goal

pub returns-in-Some : goal.returns-in-Some
returns-in-Some c = record {
  plan = c.loop-index.index;
  step = c.in-Some.step;
  names = refl;
  first = bad_row plan_view IsLow IsHigh not_low c.args.plans.now c.loop-index.index c.in-Some.step c.index-plans-index.result c.loop-index-test.true
      c.index-plans-index.is c.loop-index.invariant
      (first_high_place c.index-plans-index.result.steps.items c.in-Some.step (sym c.first_high.ensures ∙ c.in-Some.is));
}

pub loop-index-preserved : goal.loop-index-preserved
loop-index-preserved c =
    good_more plan_view IsLow IsHigh not_low c.args.plans.now c.loop-index.index c.index-plans-index.result c.loop-index-test.true c.index-plans-index.is
    c.loop-index.invariant (no_high_place c.index-plans-index.result.steps.items (sym c.first_high.ensures ∙ c.in_default.is))
