use Rattle.std.proofs.lemmas.Result.{IfOk-from_err}
use Rattle.dl_documents.proofs.document.input.Goals as goal

pub returns-in_err-head-clause-ok : goal.returns-in_err-head-clause-ok
returns-in_err-head-clause-ok c = IfOk-from_err _ _ c.from_residual.ensures.0

pub returns-in_err-script-clause-ok : goal.returns-in_err-script-clause-ok
returns-in_err-script-clause-ok c = IfOk-from_err _ _ c.from_residual-in_err-script.ensures.0

pub returns-in_err-plans-clause-ok : goal.returns-in_err-plans-clause-ok
returns-in_err-plans-clause-ok c = IfOk-from_err _ _ c.from_residual-in_err-plans.ensures.0
