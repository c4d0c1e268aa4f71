-- The rounds are those of the events so far.
use Rattle.std.proofs.Common.{◌≡◌, map, take}
use Rattle.dl_picture.specs.Numbers.{round_events}
use Rattle.dl_picture.proofs.asked.rounds_of.Given as goal

abbrev pub invariant-loop-at : goal.invariant-loop-at
invariant-loop-at l = map (λ e. e.now) l.rounds.items ≡ round_events l.caller (take l.at l.events)
