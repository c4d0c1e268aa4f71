use Rattle.std.proofs.lemmas.Result.{IfOk-from_err}
use Rattle.dl_source.proofs.tables.TablesSource.fetch.Goals as goal

pub returns-in_err-outcomes : goal.returns-in_err-outcomes
returns-in_err-outcomes c = IfOk-from_err _ _ c.from_residual.ensures.0

pub returns-in_err-text : goal.returns-in_err-text
returns-in_err-text c = IfOk-from_err _ _ c.from_residual-in_err-text.ensures.0
