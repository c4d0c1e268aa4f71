use Rattle.std.proofs.Common.{ap, arith}
use Rattle.dl_loader.proofs.CloseLemmas.{all_ended}
use Rattle.dl_loader.proofs.book.Book.open_batch.Goals as goal

pub returns-clause-ended : goal.returns-clause-ended
returns-clause-ended g c =
    let limits = ap (λ l. l.max_cells) c.limits-limits.ensures.own in
    let end = c.max_cells-batch-end.ensures.value in
    let past = c.loop-batch-test.false in
    all_ended g.L.LoaderName.service c.args.self.now c.loop-batch.batch c.keeps.ensures (omega arith) c.loop-batch.invariant
