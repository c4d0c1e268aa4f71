-- The names ascend if those from the last that was compared do.
use Rattle.std.proofs.Common.{◌≡◌, ◌-◌, [], drop, get_or}
use Rattle.dl_terms.specs.Named.{are_ascending, ascend_from}
use Rattle.dl_terms.proofs.names.are_ascending.Given as goal

abbrev pub invariant-loop-place : goal.invariant-loop-place
invariant-loop-place l = are_ascending l.names ≡ ascend_from (get_or l.names (l.place - 1) []) (drop l.place l.names)
