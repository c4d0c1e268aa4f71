-- What a `Learned` tells through a `&` is the same for every thread.
use denote.RattleType.{RattleType}
use denote.Param.Send.{IsSync}
use Rattle.dl_cells.proofs.ThreadSafety.{seen_sync}
use Rattle.dl_cells.specs.contracts.learned.Learned.{the_row}

pub sync : (T : RattleType) → IsSync (the_row T)
sync = seen_sync
