use Rattle.std.proofs.Common.{take}
use Rattle.dl_loader.specs.CloseRefusals.{IsLeastOf}
use Rattle.dl_workers.specs.GiveUps.{given_up}
use Rattle.dl_workers.proofs.give_ups.least_given_up.Given as goal

abbrev pub invariant-loop-at : goal.invariant-loop-at
invariant-loop-at l = IsLeastOf l.least (given_up (take l.at l.history.events))
