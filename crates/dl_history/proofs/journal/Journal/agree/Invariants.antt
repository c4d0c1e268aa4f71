use Rattle.std.proofs.Common.{take}
use Rattle.dl_history.specs.Agreement.{Meets}
use Rattle.dl_history.specs.Lists.{Every}
use Rattle.dl_history.proofs.journal.Journal.agree.Given as goal

abbrev pub invariant-loop-entry : goal.invariant-loop-entry
invariant-loop-entry g l = Every (Meets l.self.history l.self.cells) (take l.entry-index l.entries)
