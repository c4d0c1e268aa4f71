use Rattle.std.proofs.lemmas.Result.{IfOk-from_err}
use Rattle.dl_documents.proofs.steps.prime.Goals as goal

pub returns-in_err-key : goal.returns-in_err-key
returns-in_err-key c = IfOk-from_err _ _ c.from_residual.ensures.0

pub returns-in_err-outcome : goal.returns-in_err-outcome
returns-in_err-outcome c = IfOk-from_err _ _ c.from_residual-in_err-outcome.ensures.0
