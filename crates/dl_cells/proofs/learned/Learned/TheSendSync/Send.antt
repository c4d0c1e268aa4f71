-- What a `Learned` owns says the same to every thread.
use denote.RattleType.{RattleType}
use denote.Param.Send.{IsSend}
use Rattle.dl_cells.proofs.ThreadSafety.{seen_send}
use Rattle.dl_cells.specs.contracts.learned.Learned.{the_row}

pub send : (T : RattleType) → IsSend (the_row T)
send = seen_send
