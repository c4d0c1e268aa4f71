use Rattle.std.proofs.Common.{◌≡◌, ◌≤◌, length, map, take, vec_capacity}
use Rattle.dl_history.specs.Entries.{kind_of}
use Rattle.dl_history.proofs.outline.Outline.of.Given as goal

abbrev pub invariant-loop-entry : goal.invariant-loop-entry
invariant-loop-entry g l = (l.kinds.items ≡ map kind_of (take l.entry-index l.entries)) × (length l.entries ≤ vec_capacity l.kinds)
