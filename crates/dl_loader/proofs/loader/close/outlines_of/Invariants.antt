use Rattle.std.proofs.Common.{◌≡◌, ◌≤◌, length, map, take, vec_capacity}
use Rattle.dl_history.specs.ClosedHistory.{outline_of}
use Rattle.dl_history.specs.Accounts.{accounts_of}
use Rattle.dl_loader.proofs.loader.close.outlines_of.Given as goal

abbrev pub invariant-loop-pass : goal.invariant-loop-pass
invariant-loop-pass g l = (l.outlines.items ≡ map outline_of (accounts_of (take l.pass-index l.passes))) × (length l.passes ≤ vec_capacity l.outlines)
