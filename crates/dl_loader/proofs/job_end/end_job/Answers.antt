use Rattle.std.proofs.Common.{◌≡◌, rules}
use Rattle.dl_loader.proofs.job_end.end_job.Goals as goal

pub returns-in-Err-OutOfMemory-default-clause-ended : goal.returns-in-Err-OutOfMemory-default-clause-ended
returns-in-Err-OutOfMemory-default-clause-ended g c =
    let trace : c.settle.new.pass.trace ≡ c.args.pass.now.trace = search rules in
    let job : c.into_job.result ≡ c.args.job = search rules in
    rw (trace, job) at c.give_up.ensures.ended
