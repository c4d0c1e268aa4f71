use Rattle.std.proofs.Common.{◌∙◌, refl}
use Rattle.dl_workers.specs.Seats.{taken_jobs}
use Rattle.dl_workers.proofs.WorkerSteps.{ended_none, ended_one_more, gave_up}
use Rattle.dl_workers.proofs.worker.work.Goals as goal

pub returns-then-not-end_shown-clause-worked : goal.returns-then-not-end_shown-clause-worked
returns-then-not-end_shown-clause-worked g c =
    gave_up g.L.LoaderName.service c.loop.batches c.in-Some-take.job.batch
    (taken_jobs c.args.taker.now) (taken_jobs c.loop.taker) (taken_jobs c.take.new.taker) (taken_jobs c.drop_rest.new.taker)
    c.args.pass.now.trace c.loop.pass.trace c.end_shown.new.pass.trace c.in-Some-take.job
    c.loop.invariant.ended c.in-Some-take.ensures.taken c.if-not-end_shown.ensures.ended c.drop_rest.ensures.took refl

pub returns-then-not-end_shown-clause-tickets : goal.returns-then-not-end_shown-clause-tickets
returns-then-not-end_shown-clause-tickets g c = c.end_shown.ensures.tickets ∙ c.loop.invariant.tickets

pub returns-then-not-end_shown-clause-seat : goal.returns-then-not-end_shown-clause-seat
returns-then-not-end_shown-clause-seat g c = c.drop_rest.ensures.seat

pub loop-init : goal.loop-init
loop-init g c = record {
  can_next = tt;
  is_finite = tt;
  seat = c.requires.seat;
  ended = ended_none g.L.LoaderName.service (taken_jobs c.args.taker.now) c.args.pass.now.trace;
  tickets = refl;
}

pub loop-preserved : goal.loop-preserved
loop-preserved g c = record {
  can_next = tt;
  is_finite = tt;
  seat = c.take.ensures.seat;
  ended = ended_one_more g.L.LoaderName.service c.loop.batches
      (taken_jobs c.args.taker.now) (taken_jobs c.loop.taker) (taken_jobs c.take.new.taker)
      c.args.pass.now.trace c.loop.pass.trace c.end_shown.new.pass.trace c.in-Some-take.job
      c.loop.invariant.ended c.in-Some-take.ensures.taken c.if-not-end_shown.ensures.ended;
  tickets = c.end_shown.ensures.tickets ∙ c.loop.invariant.tickets;
}

pub returns-in_default : goal.returns-in_default
returns-in_default g c = record {
  seat = c.take.ensures.seat;
  worked = rw c.in_default.ensures.taken c.loop.invariant.ended;
  ended = c.in_default.ensures.ended;
  tickets = c.loop.invariant.tickets;
}
