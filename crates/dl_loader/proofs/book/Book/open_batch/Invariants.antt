use Rattle.std.proofs.Common.{ℕ, ◌<◌}
use Rattle.dl_history.specs.History.{HasEnd}
use Rattle.dl_loader.proofs.book.Book.open_batch.Given as goal

abbrev pub invariant-loop-batch : goal.invariant-loop-batch
invariant-loop-batch g l = (n : ℕ) → n < l.batch → HasEnd l.self.history n
