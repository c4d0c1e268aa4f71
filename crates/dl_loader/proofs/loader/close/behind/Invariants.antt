use Rattle.std.proofs.Common.{take}
use Rattle.dl_history.specs.Accounts.{accounts_of}
use Rattle.dl_loader.proofs.CloseLemmas.{IsFound}
use Rattle.dl_loader.proofs.loader.close.behind.Given as goal

abbrev pub invariant-loop-pass : goal.invariant-loop-pass
invariant-loop-pass g l = IsFound l.len (accounts_of (take l.pass-index l.passes)) l.found
