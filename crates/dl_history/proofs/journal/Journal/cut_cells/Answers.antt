use Rattle.std.proofs.Common.{◌∙◌, sym, ap}
use Rattle.std.proofs.lemmas.List.{take-map}
use Rattle.dl_history.specs.Journal.{cell_by, cells_by}
use Rattle.dl_history.proofs.JournalLemmas.{journal_cut}
use Rattle.dl_history.proofs.journal.Journal.cut_cells.Goals as goal

pub invariant_of-self : goal.invariant_of-self
invariant_of-self g c = journal_cut c.truncate.new.self.items c.args.first c.self.invariant c.truncate.ensures.items

pub returns-clause-cells : goal.returns-clause-cells
returns-clause-cells g c =
    rw (← ap (λ j. j.cells) c.self.view_is)
    (ap cells_by c.truncate.ensures.items ∙ sym (take-map cell_by c.args.first c.self.inside.states.items))
