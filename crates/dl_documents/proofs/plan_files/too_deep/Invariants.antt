-- No term of the plans so far is too high.
use Rattle.std.proofs.Common.{take, map}
use Rattle.std.specs.List.{AllByRecursion}
use Rattle.dl_documents.specs.Steps.{plan_view}
use Rattle.dl_documents.specs.Inside.PlanFiles.{AreLow}
use Rattle.dl_documents.proofs.plan_files.too_deep.Given as goal

abbrev pub invariant-loop-index : goal.invariant-loop-index
invariant-loop-index l = AllByRecursion AreLow (map plan_view (take l.index l.plans))
