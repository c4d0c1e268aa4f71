use Rattle.sqlite_trees.proofs.Doubt.{no_doubt}
use Rattle.std.proofs.Common.{true, refl}
use Rattle.dl_sqlite.proofs.read.read_memory.Goals as goal

pub returns : goal.returns
returns c = c.in_ok-tables.ensures.rows (no_doubt true refl)
