use Rattle.std.proofs.lemmas.Result.{err_from_is_err_and}
use Rattle.dl_haxl.proofs.Faults.{not_ended}
use Rattle.dl_haxl.proofs.inline.Evaluator+L+OwnThread+S.end_shown.Goals as goal

-- the end was refused
pub returns-in_err-settled-clause-fault : goal.returns-in_err-settled-clause-fault
returns-in_err-settled-clause-fault g c =
    let p = err_from_is_err_and c.from_residual.result c.from_residual.ensures.1 in
    let old = c.args.pass.now.trace in
    rw (p.1, p.2) (not_ended g.L.LoaderName.service old c.end_job.new.pass.flags c.args.job c.in_err-settled.field-0.0 c.in_err-settled.ensures.fault
    c.in_err-settled.ensures.knows)
