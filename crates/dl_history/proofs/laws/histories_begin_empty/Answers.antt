use Rattle.dl_history.proofs.HistoryLaws.{histories_begin_empty}
use Rattle.dl_history.proofs.laws.histories_begin_empty.Goals as goal

pub returns : goal.returns
returns c = histories_begin_empty
