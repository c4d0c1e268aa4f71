use Rattle.std.proofs.Common.{rules, refl, sym, inr, map, ◌∙◌}
use Rattle.std.specs.List.{AllByRecursion}
use Rattle.dl_documents.specs.Steps.{plan_view}
use Rattle.dl_documents.specs.Inside.PlanFiles.{AreLow}
use Rattle.dl_documents.proofs.Heights.{first_long_place, no_long_place}
use Rattle.dl_documents.proofs.plan_files.misfit.Goals as goal

pub returns-in-Some-first_long : goal.returns-in-Some-first_long
returns-in-Some-first_long c =
    let low : AllByRecursion AreLow (map plan_view c.args.plans.now) = search rules in
    inr (record {
      plan = c.in-Some-first_long.plan;
      names = refl;
      low = low;
      first = first_long_place c.args.plans.now c.in-Some-first_long.plan (sym c.first_long.ensures ∙ c.in-Some-first_long.is);
    })

pub returns-in-None : goal.returns-in-None
returns-in-None c =
    let low : AllByRecursion AreLow (map plan_view c.args.plans.now) = search rules in
    record { low = low; few = no_long_place c.args.plans.now (sym c.first_long.ensures ∙ c.in-None.is) }
