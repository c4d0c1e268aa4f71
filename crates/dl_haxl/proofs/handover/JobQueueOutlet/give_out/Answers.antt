use Rattle.std.proofs.Common.{◌∙◌}
use Rattle.dl_workers.specs.Seats.{sent_jobs}
use Rattle.dl_haxl.proofs.HandoverLemmas.{hands_back, hands_sent}
use Rattle.dl_haxl.proofs.handover.JobQueueOutlet.give_out.Goals as goal

pub loop-job-preserved-in_default-fail_unsent : goal.loop-job-preserved-in_default-fail_unsent
loop-job-preserved-in_default-fail_unsent g c = record {
  can_next = tt;
  is_finite = tt;
  seat = c.send.ensures.seat;
  hands = hands_back g.L.LoaderName.service c.args.pass.now.trace c.loop-job.pass.trace c.fail_unsent.new.pass.trace
      (sent_jobs c.args.seat.now) (sent_jobs c.loop-job.seat) (sent_jobs c.send.new.sender) c.loop-job.yielded c.in-Some.job c.in-Err.job
      c.loop-job.invariant.hands c.in-Err.ensures.err c.in_default-fail_unsent.ensures.failed;
  tickets = c.fail_unsent.ensures.tickets ∙ c.loop-job.invariant.tickets;
}

pub loop-job-preserved : goal.loop-job-preserved
loop-job-preserved g c = record {
  can_next = tt;
  is_finite = tt;
  seat = c.send.ensures.seat;
  hands = hands_sent c.args.pass.now.trace c.loop-job.pass.trace
      (sent_jobs c.args.seat.now) (sent_jobs c.loop-job.seat) (sent_jobs c.send.new.sender) c.loop-job.yielded c.in-Some.job
      c.loop-job.invariant.hands c.in_default.ensures.ok;
  tickets = c.loop-job.invariant.tickets;
}
