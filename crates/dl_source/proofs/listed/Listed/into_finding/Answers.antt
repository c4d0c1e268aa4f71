use Rattle.std.proofs.lemmas.Result.{IfOk-from_err}
use Rattle.dl_source.proofs.listed.Listed.into_finding.Goals as goal

pub returns-in_err-new-in-Row : goal.returns-in_err-new-in-Row
returns-in_err-new-in-Row c = IfOk-from_err _ _ c.from_residual.ensures.0

pub returns-in_err-new-in-Error : goal.returns-in_err-new-in-Error
returns-in_err-new-in-Error c = IfOk-from_err _ _ c.from_residual-in_err-new-in-Error.ensures.0

pub returns-in_err-new-in-Break : goal.returns-in_err-new-in-Break
returns-in_err-new-in-Break c = IfOk-from_err _ _ c.from_residual-in_err-new-in-Break.ensures.0
