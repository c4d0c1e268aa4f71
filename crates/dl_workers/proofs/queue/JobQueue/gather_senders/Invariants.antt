use Rattle.std.proofs.Common.{◌≡◌, ◌≤◌, ◌+◌, ◌*◌, ◌^◌, ◌++◌, length, flat_map}
use Rattle.crossbeam_channel.specs.Ends.{sends_on}
use Rattle.crossbeam_channel.specs.Claims.{view, IsSeatAt}
use Rattle.dl_workers.specs.Seats.{sent_items, sent_jobs}
use Rattle.dl_workers.specs.LosslessRule.{traffic}
use Rattle.dl_workers.proofs.queue.JobQueue.gather_senders.Given as goal

abbrev pub invariant-loop-sender : goal.invariant-loop-sender
invariant-loop-sender l = record {
  seat : IsSeatAt (sends_on l.self.sends) l.whole;
  gathered : view l.whole ≡ traffic ((view l.fn.whole).seats + length l.yielded) (view l.fn.whole).all ((view l.fn.whole).sent ++ flat_map sent_items l.yielded)
      (view l.fn.whole).taken;
  counted : l.sent ≡ length (flat_map sent_jobs l.yielded);
  bound : l.sent ≤ length l.yielded * 2 ^ 32;
}
