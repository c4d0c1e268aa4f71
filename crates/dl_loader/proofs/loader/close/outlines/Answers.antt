use Rattle.dl_loader.proofs.AccountLemmas.{passes_close}
use Rattle.dl_loader.proofs.loader.close.outlines.Goals as goal

pub returns-clause-closes : goal.returns-clause-closes
returns-clause-closes g c =
    passes_close g.L.LoaderName.service c.args.book.now c.args.passes.now c.in_ok-outlines_of.field-0.items c.keeps.ensures c.keeps-2.ensures
    c.requires.answers c.in_ok-check.ensures.may (rw c.in_ok-check.ensures.passes at c.in_ok-outlines_of.ensures)
