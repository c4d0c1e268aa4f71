use Rattle.dl_loader.proofs.CloseLemmas.{least_pass}
use Rattle.dl_loader.proofs.loader.unshown.least_unshown.Goals as goal

pub loop-pass-preserved : goal.loop-pass-preserved
loop-pass-preserved g c =
    least_pass c.args.journal.now.cells c.args.passes.now c.loop-pass.pass-index c.pass-item.result c.entries.result.now c.loop-pass.least
    c.least_in-least.result c.loop-pass-test.true c.pass-item.is c.entries.ensures.entries c.loop-pass.invariant c.least_in-least.ensures
