use Rattle.std.proofs.Common.{◌≡◌, ◌≤◌, length, take, vec_capacity}
use Rattle.dl_desk.proofs.Loads.{Loading}
use Rattle.dl_desk.proofs.desk.Desk.prepare_loads.Given as goal

abbrev pub invariant-loop-key : goal.invariant-loop-key
invariant-loop-key l = record {
  loading : Loading l.fn.self.book l.self (take l.key-index l.keys) l.replies.items;
  count : length l.replies.items ≡ l.key-index;
  room : length l.keys ≤ vec_capacity l.replies;
}
