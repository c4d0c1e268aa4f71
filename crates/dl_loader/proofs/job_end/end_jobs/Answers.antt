use Rattle.std.proofs.Common.{◌≡◌, ◌∙◌, Err, rules}
use Rattle.std.proofs.lemmas.Iterator.Adapters.{YieldsList-from_vec}
use Rattle.std.proofs.lemmas.Iterator.Consumers.{YieldsList-turn, YieldsList-so_far}
use Rattle.dl_desk.specs.Service.{Service}
use Rattle.dl_loader.proofs.JobEnds.{ended_before, ended_more}
use Rattle.dl_loader.proofs.job_end.end_jobs.Goals as goal

pub loop-job-preserved : goal.loop-job-preserved
loop-job-preserved g c = record {
  can_next = tt;
  is_finite = tt;
  ended = ended_more _ _ _ _ c.loop-job.yielded c.in-Some.job c.loop-job.invariant.ended c.in_ok-end_job.ensures.ended;
  tickets = c.end_job.ensures.tickets ∙ c.loop-job.invariant.tickets;
}

pub returns-in_err-end_job-clause-stopped : goal.returns-in_err-end_job-clause-stopped
returns-in_err-end_job-clause-stopped g c =
    let s : Service = g.L.LoaderName.service in
    let all = YieldsList-from_vec c.args.jobs.items (search rules) (search rules) in
    let turn = YieldsList-turn all c.loop-job.yielded _ c.loop-job.yielded_by _ c.next.new.self c.in-Some.job c.in-Some.is c.next.ensures.steps in
    let so_far = YieldsList-so_far all c.loop-job.yielded _ c.loop-job.yielded_by in
    let fault = c.in_err-end_job.field-0.0 in
    let same : c.from_residual.result ≡ Err fault = search rules in
    rw same (ended_before s c.args.pass.now.trace c.loop-job.pass.trace c.end_job.new.pass.trace c.loop-job.yielded c.args.jobs.items c.in-Some.job fault
    c.loop-job.invariant.ended so_far turn c.in_err-end_job.ensures.unchanged c.in_err-end_job.ensures.fault)
