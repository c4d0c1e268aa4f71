use Rattle.dl_terms.proofs.DepthBound.{given_by_depth}
use Rattle.dl_terms.proofs.laws.gives_by_depth.Goals as goal

pub returns : goal.returns
returns c = given_by_depth
