use Rattle.std.proofs.Common.{sym}
use Rattle.std.proofs.lemmas.List.Elements.{All-same}
use Rattle.dl_scope.specs.Inside.Results.{IsDone}
use Rattle.dl_scope.proofs.results.results_of.Goals as goal

pub returns-clause-done : goal.returns-clause-done
returns-clause-done g c =
    All-same IsDone c.args.runs.workers.items c.as_slice-2.result.now (sym c.as_slice-2.ensures.value) c.in-Ok.ensures.done
