use Rattle.dl_desk.proofs.LawEnds.{ends_stay}
use Rattle.dl_desk.proofs.laws.ends_stay.Goals as goal

pub returns : goal.returns
returns c = ends_stay
