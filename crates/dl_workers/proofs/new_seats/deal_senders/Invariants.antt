use Rattle.std.proofs.Common.{◌≡◌, ◌≤◌, ◌-◌, [], All, vec_len, vec_capacity}
use Rattle.crossbeam_channel.specs.Ends.{sends_on}
use Rattle.crossbeam_channel.specs.Claims.{view, IsSeatAt}
use Rattle.dl_workers.specs.LosslessRule.{traffic}
use Rattle.dl_workers.specs.Seats.{IsNewSender}
use Rattle.dl_workers.proofs.new_seats.deal_senders.Given as goal

abbrev pub invariant-loop : goal.invariant-loop
invariant-loop l = record {
  seat : IsSeatAt (sends_on l.sends) l.whole;
  rest : view l.whole ≡ traffic ((view l.fn.whole).seats - l.counter) (view l.fn.whole).all [] [];
  dealt : vec_len l.seats ≡ l.counter;
  room : l.count ≤ vec_capacity l.seats;
  all_seats : All (λ s. IsSeatAt (sends_on l.sends) s.pass) l.seats.items;
  all_new : All (IsNewSender (view l.fn.whole).all) l.seats.items;
}
