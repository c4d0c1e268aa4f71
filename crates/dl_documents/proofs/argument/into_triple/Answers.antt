use Rattle.std.proofs.Common.{rules}
use Rattle.dl_documents.proofs.Trees.{no_three}
use Rattle.dl_documents.proofs.argument.into_triple.Goals as goal

pub returns-then-len-ne3 : goal.returns-then-len-ne3
returns-then-len-ne3 c = no_three _ _ c.in_ok-items.ensures (search rules)
