use Rattle.dl_desk.proofs.PastAtoms.{legal_atoms}
use Rattle.dl_desk.proofs.laws.legal_pasts_are_answered.Goals as goal

pub returns : goal.returns
returns c = legal_atoms
