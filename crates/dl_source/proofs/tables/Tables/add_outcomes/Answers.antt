use Rattle.std.proofs.lemmas.Result.{IfOk-from_err}
use Rattle.dl_source.proofs.tables.Tables.add_outcomes.Goals as goal

pub returns-in_err-try_copy-in-Ok-Row-clause-broken : goal.returns-in_err-try_copy-in-Ok-Row-clause-broken
returns-in_err-try_copy-in-Ok-Row-clause-broken c = IfOk-from_err _ _ c.from_residual.ensures.0

pub returns-in_err-try_copy-in-Ok-Break-clause-broken : goal.returns-in_err-try_copy-in-Ok-Break-clause-broken
returns-in_err-try_copy-in-Ok-Break-clause-broken c = IfOk-from_err _ _ c.from_residual-in_err-try_copy-in-Ok-Break.ensures.0

pub returns-in_err-try_copy-in-Ok-Error-clause-broken : goal.returns-in_err-try_copy-in-Ok-Error-clause-broken
returns-in_err-try_copy-in-Ok-Error-clause-broken c = IfOk-from_err _ _ c.from_residual-in_err-try_copy-in-Ok-Error.ensures.0

pub returns-in_err-push-clause-broken : goal.returns-in_err-push-clause-broken
returns-in_err-push-clause-broken c = IfOk-from_err _ _ c.from_residual-in_err-push.ensures.0
