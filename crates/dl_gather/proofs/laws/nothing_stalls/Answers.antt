use Rattle.dl_gather.proofs.Reached.{nothing_stalls}
use Rattle.dl_gather.proofs.laws.nothing_stalls.Goals as goal

pub returns : goal.returns
returns c = nothing_stalls
