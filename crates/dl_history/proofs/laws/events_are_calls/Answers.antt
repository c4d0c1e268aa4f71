use Rattle.dl_history.proofs.HistoryLaws.{events_are_calls}
use Rattle.dl_history.proofs.laws.events_are_calls.Goals as goal

pub returns : goal.returns
returns c = events_are_calls
