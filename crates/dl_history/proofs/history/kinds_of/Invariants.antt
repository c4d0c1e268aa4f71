use Rattle.std.proofs.Common.{◌≡◌, drop}
use Rattle.dl_history.specs.ClosedHistory.{kinds_of}
use Rattle.dl_history.proofs.history.kinds_of.Given as goal

abbrev pub invariant-loop-outline : goal.invariant-loop-outline
invariant-loop-outline l = kinds_of l.caller l.outlines ≡ kinds_of l.caller (drop l.outline-index l.outlines)
