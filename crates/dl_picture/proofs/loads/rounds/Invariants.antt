-- The rounds are those of the events so far, and no more than those.
use Rattle.std.proofs.Common.{◌≡◌, ◌≤◌, length, take}
use Rattle.dl_picture.specs.Numbers.{round_events}
use Rattle.dl_picture.proofs.loads.rounds.Given as goal

abbrev pub invariant-loop-at : goal.invariant-loop-at
invariant-loop-at l = record {
  few : l.count ≤ l.at;
  counted : l.count ≡ length (round_events l.caller (take l.at l.events));
}
