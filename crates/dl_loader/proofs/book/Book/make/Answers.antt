use Rattle.std.proofs.Common.{subst, sym}
use Rattle.dl_loader.specs.Book.{Book}
use Rattle.dl_loader.specs.EventEffect.{KnowsStop}
use Rattle.dl_loader.proofs.LoadCells.{all_begun}
use Rattle.dl_loader.proofs.NewTickets.{tickets_by_loads}
use Rattle.dl_loader.proofs.StopCause.{refused_by_stop}
use Rattle.dl_loader.proofs.book.Book.make.Goals as goal

pub returns-in-Ok-clause-tickets : goal.returns-in-Ok-clause-tickets
returns-in-Ok-clause-tickets g c = tickets_by_loads c.in-Ok.ensures.made

pub returns-in-Ok-clause-begun : goal.returns-in-Ok-clause-begun
returns-in-Ok-clause-begun g c = all_begun c.keeps.ensures c.keeps-in-Ok.ensures c.in-Ok.ensures.made

pub tell_stop-requires : goal.tell_stop-requires
tell_stop-requires g c =
    subst (λ (b : Book). KnowsStop b.flags c.in-Err.fault) (sym c.in-Err.ensures.unchanged.0) (refused_by_stop g.L.LoaderName.service c.args.self.now
    c.args.pass.now.trace
    (g.C.EventCall.call c.args.call.now) (g.C.EventCall.job c.args.call.now) c.in-Err.fault c.in-Err.ensures.fault)
