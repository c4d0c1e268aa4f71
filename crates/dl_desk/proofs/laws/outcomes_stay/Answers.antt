use Rattle.dl_desk.proofs.LawOutcomes.{outcomes_stay}
use Rattle.dl_desk.proofs.laws.outcomes_stay.Goals as goal

pub returns : goal.returns
returns c = outcomes_stay
