use Rattle.std.proofs.lemmas.Result.{IfOk-from_err}
use Rattle.dl_documents.proofs.steps.named.Goals as goal

pub returns-in_err-prime-in-prime : goal.returns-in_err-prime-in-prime
returns-in_err-prime-in-prime c = IfOk-from_err _ _ c.from_residual.ensures.0

pub returns-in_err-key-in-clear : goal.returns-in_err-key-in-clear
returns-in_err-key-in-clear c = IfOk-from_err _ _ c.from_residual-in_err-key-in-clear.ensures.0

pub returns-in_err-eval-in-eval : goal.returns-in_err-eval-in-eval
returns-in_err-eval-in-eval c = IfOk-from_err _ _ c.from_residual-in_err-eval-in-eval.ensures.0
