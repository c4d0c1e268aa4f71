use Rattle.std.proofs.Common.{◌≡◌, ◌≤◌, ◌+◌, ◌*◌, ◌^◌, ◌++◌, length, flat_map}
use Rattle.crossbeam_channel.specs.Ends.{sends_on}
use Rattle.crossbeam_channel.specs.Claims.{view, IsSeatAt}
use Rattle.dl_workers.specs.Seats.{taken_items, taken_jobs}
use Rattle.dl_workers.specs.LosslessRule.{traffic}
use Rattle.dl_workers.proofs.queue.JobQueue.gather_takers.Given as goal

abbrev pub invariant-loop-taker : goal.invariant-loop-taker
invariant-loop-taker l = record {
  seat : IsSeatAt (sends_on l.self.sends) l.whole;
  gathered : view l.whole ≡ traffic ((view l.fn.whole).seats + length l.yielded) (view l.fn.whole).all (view l.fn.whole).sent
      ((view l.fn.whole).taken ++ flat_map taken_items l.yielded);
  counted : l.taken ≡ length (flat_map taken_jobs l.yielded);
  bound : l.taken ≤ length l.yielded * 2 ^ 32;
}
