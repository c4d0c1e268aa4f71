use Rattle.std.proofs.lemmas.Result.{IfOk-from_err}
use Rattle.dl_values.proofs.key.FetchKey.new.Goals as goal

pub returns-in_err-both-clause-ok : goal.returns-in_err-both-clause-ok
returns-in_err-both-clause-ok c = IfOk-from_err _ _ c.from_residual.ensures.0
