use Rattle.dl_loader.proofs.Preparations.{end_brings, end_prepared}
use Rattle.dl_loader.proofs.event_call.ends.EndBatchEventCall.prepare.Goals as goal

pub dues-requires : goal.dues-requires
dues-requires c =
    let end = c.args.self.now in
    rw c.in_ok-call.ensures (end_brings end.batch end.keys.now end.answer c.in_ok-cells.cells.now end.fits c.in_ok-cells.ensures.each)

pub returns-clause-prepared : goal.returns-clause-prepared
returns-clause-prepared c =
    let end = c.args.self.now in
    end_prepared end.batch end.keys.now end.answer c.in_ok-cells.ensures.accepted c.in_ok-cells.ensures.cells c.in_ok-cells.ensures.each
    c.in_ok-call.ensures c.in_ok-dues.ensures
