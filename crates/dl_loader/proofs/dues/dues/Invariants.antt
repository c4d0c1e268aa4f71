use Rattle.std.proofs.Common.{◌≡◌, ◌≤◌, length, take, vec_capacity}
use Rattle.dl_loader.specs.Inside.Dues.{AreDue}
use Rattle.dl_loader.proofs.dues.dues.Given as goal

abbrev pub invariant-loop-place : goal.invariant-loop-place
invariant-loop-place l = record {
  count : length l.dues.items ≡ l.place;
  room : length l.cells ≤ vec_capacity l.dues;
  due : AreDue l.call l.at (take l.place l.cells) l.dues.items;
}
