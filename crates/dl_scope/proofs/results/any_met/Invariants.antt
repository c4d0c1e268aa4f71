use Rattle.std.proofs.Common.{take}
use Rattle.std.specs.Prelude.{All}
use Rattle.dl_scope.specs.Inside.ThreadResults.{WasTaken}
use Rattle.dl_scope.proofs.results.any_met.Given as goal

abbrev pub invariant-loop-run : goal.invariant-loop-run
invariant-loop-run g l = All WasTaken (take l.run-index l.plans)
