use Rattle.std.proofs.Common.{length, subst, sym}
use Rattle.dl_history.specs.Agreement.{NoneBehind}
use Rattle.dl_loader.specs.Book.{Book}
use Rattle.dl_history.specs.Accounts.{accounts_of}
use Rattle.dl_loader.specs.CloseRefusals.{TellWhole}
use Rattle.dl_loader.proofs.AccountLemmas.{passes_tell}
use Rattle.dl_loader.proofs.book.Book.audit.Goals as goal

pub returns-clause-whole : goal.returns-clause-whole
returns-clause-whole g c =
    let service = g.L.LoaderName.service in
    let passes = c.args.passes.now in
    let journal = c.self.inside.journal in
    let seen = subst (λ (b : Book). NoneBehind (length b.history) (accounts_of passes)) (sym c.self.view_is) c.requires.seen in
    subst (λ (b : Book). TellWhole service.callers b.history (accounts_of passes)) c.self.view_is
    (passes_tell service journal.history journal.cells passes g.L.Ledger.parts c.requires.parts c.self.invariant.legal c.requires.each seen
    c.audit.ensures.fits c.audit.ensures.whole)
