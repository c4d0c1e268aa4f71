use Rattle.std.proofs.Common.{◌≡◌}
use Rattle.dl_workers.specs.Seats.{IsSenderOf, sent_jobs}
use Rattle.dl_workers.proofs.queue.JobQueue.shut.Given as goal

abbrev pub invariant-loop : goal.invariant-loop
invariant-loop g l = record {
  seat : IsSenderOf l.self l.sender;
  same : sent_jobs l.sender ≡ sent_jobs l.fn.sender;
}
