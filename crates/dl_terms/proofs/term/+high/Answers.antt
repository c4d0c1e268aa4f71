use Rattle.std.proofs.Common.{arith}
use Rattle.std.proofs.lemmas.Grind.{common_steps}
use Rattle.dl_terms.proofs.term.+high.Goals as goal

pub highest-loop-part-preserved : goal.highest-loop-part-preserved
highest-loop-part-preserved t c = grind (arith, common_steps)
