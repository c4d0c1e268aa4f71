use Rattle.std.proofs.Common.{◌≡◌, ◌≤◌, length, take, vec_capacity}
use Rattle.dl_desk.proofs.Plays.{Played}
use Rattle.dl_desk.proofs.desk.Desk.play.Given as goal

abbrev pub invariant-loop-call : goal.invariant-loop-call
invariant-loop-call l = record {
  played : Played l.fn.self.book l.self.book (take l.call-index l.calls) l.told.items;
  count : length l.told.items ≡ l.call-index;
  room : length l.calls ≤ vec_capacity l.told;
}
