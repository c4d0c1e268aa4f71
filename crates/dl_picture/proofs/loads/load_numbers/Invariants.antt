-- The numbers are those of the events so far.
use Rattle.std.proofs.Common.{take}
use Rattle.dl_picture.specs.Numbers.{AreLoadNumbers, events_by, load_replies}
use Rattle.dl_picture.proofs.loads.load_numbers.Given as goal

abbrev pub invariant-loop-at : goal.invariant-loop-at
invariant-loop-at l = AreLoadNumbers (load_replies (events_by l.caller (take l.at l.events))) l.numbers
