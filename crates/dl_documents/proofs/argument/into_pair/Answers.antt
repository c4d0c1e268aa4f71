use Rattle.std.proofs.Common.{rules}
use Rattle.dl_documents.proofs.Trees.{no_two}
use Rattle.dl_documents.proofs.argument.into_pair.Goals as goal

pub returns-then-len-ne2 : goal.returns-then-len-ne2
returns-then-len-ne2 c = no_two _ _ c.in_ok-items.ensures (search rules)
