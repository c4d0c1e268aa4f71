use Rattle.dl_gather.proofs.SendCounts.{sends_are_rounds}
use Rattle.dl_gather.proofs.laws.sends_are_rounds.Goals as goal

pub returns : goal.returns
returns c = sends_are_rounds
