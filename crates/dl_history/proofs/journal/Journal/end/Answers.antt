use Rattle.std.proofs.Common.{ap}
use Rattle.dl_history.proofs.JournalLemmas.{cells_ended}
use Rattle.dl_history.proofs.journal.Journal.end.Goals as goal

pub returns-clause-ended : goal.returns-clause-ended
returns-clause-ended g c =
    rw (← ap (λ j. j.cells) c.self.view_is)
    (cells_ended c.self.inside.states.items c.args.cell c.end.new.self c.args.ending c.end.result c.end.ensures.ended)
