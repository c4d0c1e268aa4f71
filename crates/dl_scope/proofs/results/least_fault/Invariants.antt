use Rattle.std.proofs.Common.{take}
use Rattle.std.specs.Prelude.{All}
use Rattle.dl_scope.specs.Inside.Results.{MetNoOwn}
use Rattle.dl_scope.proofs.results.least_fault.Given as goal

abbrev pub invariant-loop-plan : goal.invariant-loop-plan
invariant-loop-plan g l = All MetNoOwn (take l.plan l.plans)
