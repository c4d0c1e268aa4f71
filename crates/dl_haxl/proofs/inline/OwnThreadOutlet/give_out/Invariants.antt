use Rattle.std.proofs.Common.{◌≡◌}
use Rattle.dl_haxl.proofs.BatchEnds.{EndsJobs}
use Rattle.dl_haxl.proofs.inline.OwnThreadOutlet.give_out.Given as goal

abbrev pub invariant-loop-job : goal.invariant-loop-job
invariant-loop-job g l = record {
  can_next : (goal.iterator-loop-job g).can_next l.job-iterator;
  is_finite : (goal.iterator-loop-job g).is_finite l.job-iterator;
  ends : EndsJobs g.L.LoaderName.service l.fn.pass.trace l.pass.trace l.yielded;
  tickets : l.pass.trace.tickets ≡ l.fn.pass.trace.tickets;
}
