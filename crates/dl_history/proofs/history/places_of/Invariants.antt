use Rattle.std.proofs.Common.{◌≡◌, flat_map, take}
use Rattle.dl_history.specs.ClosedHistory.{place_of}
use Rattle.dl_history.proofs.history.places_of.Given as goal

abbrev pub invariant-loop-entry : goal.invariant-loop-entry
invariant-loop-entry l = l.places.items ≡ flat_map place_of (take l.entry-index l.entries)
