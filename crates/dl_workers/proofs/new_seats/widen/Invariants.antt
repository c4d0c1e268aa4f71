use Rattle.std.proofs.Common.{◌≡◌, ◌+◌, []}
use Rattle.crossbeam_channel.specs.Ends.{sends_on}
use Rattle.crossbeam_channel.specs.Claims.{view, IsSeatAt}
use Rattle.dl_workers.specs.LosslessRule.{traffic}
use Rattle.dl_workers.proofs.new_seats.widen.Given as goal

abbrev pub invariant-loop : goal.invariant-loop
invariant-loop l = record {
  seat : IsSeatAt (sends_on l.sends) l.whole;
  wide : view l.whole ≡ traffic (1 + l.counter) (1 + l.counter) [] [];
}
