use Rattle.std.proofs.Common.{take}
use Rattle.dl_history.specs.Agreement.{unshown}
use Rattle.dl_history.specs.Accounts.{accounts_of}
use Rattle.dl_loader.specs.CloseRefusals.{IsLeastOf}
use Rattle.dl_loader.proofs.loader.unshown.least_unshown.Given as goal

abbrev pub invariant-loop-pass : goal.invariant-loop-pass
invariant-loop-pass g l = IsLeastOf l.least (unshown l.journal.cells (accounts_of (take l.pass-index l.passes)))
