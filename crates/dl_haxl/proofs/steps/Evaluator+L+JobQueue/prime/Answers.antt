use Rattle.std.proofs.Common.{refl, None}
use Rattle.std.proofs.lemmas.Result.{err_from_is_err_and}
use Rattle.dl_desk.specs.declared.event.Call.TheVariants.{Prime}
use Rattle.dl_haxl.proofs.steps.Evaluator+L+JobQueue.prime.Goals as goal

-- the prime was refused
pub returns-in_err-prime-clause-fault : goal.returns-in_err-prime-clause-fault
returns-in_err-prime-clause-fault g c =
    let p = err_from_is_err_and c.from_residual.result c.from_residual.ensures.1 in
    rw (p.1, p.2) (c.args.pass.now.trace, Prime c.args.key.now c.args.outcome, None, refl, c.in_err-prime.ensures.fault, c.in_err-prime.ensures.knows)
