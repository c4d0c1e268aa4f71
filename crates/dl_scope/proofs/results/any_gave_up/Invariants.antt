use Rattle.std.proofs.Common.{take}
use Rattle.std.specs.Prelude.{All}
use Rattle.dl_scope.specs.Inside.Results.{IsDone}
use Rattle.dl_scope.proofs.results.any_gave_up.Given as goal

abbrev pub invariant-loop-run : goal.invariant-loop-run
invariant-loop-run g l = All IsDone (take l.run-index l.workers)
