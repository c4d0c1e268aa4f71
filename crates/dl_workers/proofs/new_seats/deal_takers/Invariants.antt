use Rattle.std.proofs.Common.{◌≡◌, ◌≤◌, ◌+◌, ◌-◌, [], All, vec_len, vec_capacity}
use Rattle.crossbeam_channel.specs.Ends.{sends_on}
use Rattle.crossbeam_channel.specs.Claims.{view, IsSeatAt}
use Rattle.dl_workers.specs.LosslessRule.{traffic}
use Rattle.dl_workers.specs.Seats.{IsNewTaker}
use Rattle.dl_workers.proofs.new_seats.deal_takers.Given as goal

abbrev pub invariant-loop : goal.invariant-loop
invariant-loop l = record {
  seat : IsSeatAt (sends_on l.sends) l.whole;
  rest : view l.whole ≡ traffic (l.count + 1 - l.counter) (view l.fn.whole).all [] [];
  dealt : vec_len l.seats + 1 ≡ l.counter;
  room : l.count ≤ vec_capacity l.seats;
  all_seats : All (λ t. IsSeatAt (sends_on l.sends) t.pass) l.seats.items;
  all_new : All (IsNewTaker (view l.fn.whole).all) l.seats.items;
}
