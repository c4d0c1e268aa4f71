use Rattle.std.proofs.Common.{rules}
use Rattle.dl_documents.proofs.Trees.{no_two}
use Rattle.dl_documents.proofs.argument.pair.Goals as goal

pub returns-then-items-ne2 : goal.returns-then-items-ne2
returns-then-items-ne2 c = no_two _ _ c.in_ok-items.ensures (search rules)
