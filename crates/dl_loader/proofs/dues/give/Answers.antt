use Rattle.std.proofs.Common.{ap}
use Rattle.dl_loader.specs.Inside.DueLists.{due_list}
use Rattle.dl_loader.proofs.DueLemmas.{given_none}
use Rattle.dl_loader.proofs.dues.give.Goals as goal

pub returns-in-None-clause-given : goal.returns-in-None-clause-given
returns-in-None-clause-given g c = given_none (ap due_list c.in-None.is)
