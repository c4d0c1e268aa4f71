use Rattle.std.proofs.Common.{◌∙◌}
use Rattle.dl_haxl.proofs.BatchEnds.{ends_more}
use Rattle.dl_haxl.proofs.inline.OwnThreadOutlet.give_out.Goals as goal

pub loop-job-preserved : goal.loop-job-preserved
loop-job-preserved g c = record {
  can_next = tt;
  is_finite = tt;
  ends = ends_more g.L.LoaderName.service c.args.pass.now.trace c.loop-job.pass.trace c.end_shown.new.pass.trace c.loop-job.yielded c.in-Some.job
      c.loop-job.invariant.ends c.in_default.ensures.ended;
  tickets = c.end_shown.ensures.tickets ∙ c.loop-job.invariant.tickets;
}
