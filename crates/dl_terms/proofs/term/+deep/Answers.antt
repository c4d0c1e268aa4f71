use Rattle.std.proofs.Common.{arith}
use Rattle.std.proofs.lemmas.Grind.{common_steps}
use Rattle.dl_terms.proofs.term.+deep.Goals as goal

pub deepest-loop-part-preserved : goal.deepest-loop-part-preserved
deepest-loop-part-preserved t c = grind (arith, common_steps)
