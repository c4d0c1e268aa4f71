use Rattle.std.proofs.Common.{ℕ, List, ◌++◌, take, flat_map}
use Rattle.dl_loader.specs.CloseRefusals.{IsLeastOf}
use Rattle.dl_history.specs.Agreement.{read_in, refused_in}
use Rattle.dl_loader.proofs.loader.unshown.least_in.Given as goal

abbrev pub invariant-loop-entry : goal.invariant-loop-entry
invariant-loop-entry g l =
    (ns : List ℕ) → IsLeastOf l.fn.found ns → IsLeastOf l.least (ns ++ refused_in l.journal.cells (flat_map read_in (take l.entry-index l.entries)))
