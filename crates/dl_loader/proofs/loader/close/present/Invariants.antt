use Rattle.std.proofs.Common.{◌≡◌, ◌≤◌}
use Rattle.dl_history.specs.Accounts.{accounts_of}
use Rattle.dl_loader.specs.CloseRefusals.{present}
use Rattle.dl_loader.proofs.loader.close.present.Given as goal

abbrev pub invariant-loop-caller : goal.invariant-loop-caller
invariant-loop-caller g l = (l.got ≡ present l.caller (accounts_of l.passes)) × (l.got ≤ l.caller)
