use Rattle.std.proofs.Common.{◌≡◌}
use Rattle.dl_loader.specs.JobEnd.{WereEnded}
use Rattle.dl_loader.proofs.job_end.end_jobs.Given as goal

abbrev pub invariant-loop-job : goal.invariant-loop-job
invariant-loop-job g l = record {
  can_next : (goal.iterator-loop-job g).can_next l.job-iterator;
  is_finite : (goal.iterator-loop-job g).is_finite l.job-iterator;
  ended : WereEnded g.L.LoaderName.service l.fn.pass.trace l.yielded l.pass.trace;
  tickets : l.pass.trace.tickets ≡ l.fn.pass.trace.tickets;
}
