use Rattle.std.proofs.Common.{◌≡◌, ◌≤◌, take}
use Rattle.dl_history.specs.Agreement.{accounts_by}
use Rattle.dl_history.specs.Accounts.{accounts_of}
use Rattle.dl_loader.proofs.loader.close.passes_of.Given as goal

abbrev pub invariant-loop-pass : goal.invariant-loop-pass
invariant-loop-pass g l = (l.own ≡ accounts_by l.caller (accounts_of (take l.pass-index l.passes))) × (l.own ≤ l.pass-index)
