use Rattle.dl_workers.specs.Seats.{IsTakerOf, taken_jobs}
use Rattle.dl_workers.specs.WorkerResult.{Took}
use Rattle.dl_workers.proofs.worker.drop_rest.Given as goal

abbrev pub invariant-loop : goal.invariant-loop
invariant-loop g l = record {
  can_next : (goal.iterator-loop g).can_next l.iterator';
  is_finite : (goal.iterator-loop g).is_finite l.iterator';
  seat : IsTakerOf l.queue l.taker;
  took : Took (taken_jobs l.fn.taker) (taken_jobs l.taker);
}
