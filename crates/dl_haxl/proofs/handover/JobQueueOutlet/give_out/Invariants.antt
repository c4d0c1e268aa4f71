use Rattle.std.proofs.Common.{◌≡◌}
use Rattle.dl_workers.specs.Seats.{IsSenderOf, sent_jobs}
use Rattle.dl_haxl.proofs.HandoverLemmas.{Hands}
use Rattle.dl_haxl.proofs.handover.JobQueueOutlet.give_out.Given as goal

abbrev pub invariant-loop-job : goal.invariant-loop-job
invariant-loop-job g l = record {
  can_next : (goal.iterator-loop-job g).can_next l.job-iterator;
  is_finite : (goal.iterator-loop-job g).is_finite l.job-iterator;
  seat : IsSenderOf l.evaluator.outlet.now l.seat;
  hands : Hands l.fn.pass.trace l.pass.trace (sent_jobs l.fn.seat) (sent_jobs l.seat) l.yielded;
  tickets : l.pass.trace.tickets ≡ l.fn.pass.trace.tickets;
}
