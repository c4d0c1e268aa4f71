use Rattle.std.proofs.Common.{◌≡◌, ◌<◌}
use Rattle.crossbeam_channel.specs.Claims.{view, IsSeatAt}
use Rattle.crossbeam_channel.specs.Ends.{sends_on}
use Rattle.dl_workers.proofs.queue.JobQueue.receive.Given as goal

abbrev pub invariant-loop : goal.invariant-loop
invariant-loop g l = record {
  can_next : (goal.iterator-loop g).can_next l.iterator';
  is_finite : (goal.iterator-loop g).is_finite l.iterator';
  seat : IsSeatAt (sends_on l.self.sends) l.pass;
  same : view l.pass ≡ view l.fn.pass;
  some_seat : 0 < (view l.pass).seats;
}
