use Rattle.std.proofs.Common.{◌≡◌}
use Rattle.dl_workers.specs.Seats.{IsTakerOf, taken_jobs}
use Rattle.dl_workers.specs.WorkerResult.{EndedEach}
use Rattle.dl_workers.proofs.worker.work.Given as goal

abbrev pub invariant-loop : goal.invariant-loop
invariant-loop g l = record {
  can_next : (goal.iterator-loop g).can_next l.iterator';
  is_finite : (goal.iterator-loop g).is_finite l.iterator';
  seat : IsTakerOf l.queue l.taker;
  ended : EndedEach g.L.LoaderName.service l.batches (taken_jobs l.fn.taker) (taken_jobs l.taker) l.fn.pass.trace l.pass.trace;
  tickets : l.pass.trace.tickets ≡ l.fn.pass.trace.tickets;
}
