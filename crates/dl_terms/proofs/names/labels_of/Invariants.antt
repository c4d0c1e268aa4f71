-- The labels so far are those of the names so far.
use Rattle.std.proofs.Common.{◌≡◌, map, take}
use Rattle.dl_terms.specs.Named.{label}
use Rattle.dl_terms.proofs.names.labels_of.Given as goal

abbrev pub invariant-loop-name : goal.invariant-loop-name
invariant-loop-name l = l.labels.items ≡ map label (take l.name-index l.names)
