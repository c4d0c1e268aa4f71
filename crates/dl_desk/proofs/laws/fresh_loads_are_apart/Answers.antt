use Rattle.dl_desk.proofs.LawFresh.{fresh_loads_are_apart}
use Rattle.dl_desk.proofs.laws.fresh_loads_are_apart.Goals as goal

pub returns : goal.returns
returns c = fresh_loads_are_apart
