use Rattle.std.proofs.Common.{refl}
use Rattle.dl_loader.proofs.CloseLemmas.{found_next}
use Rattle.dl_loader.proofs.loader.close.behind.Goals as goal

pub loop-pass-preserved : goal.loop-pass-preserved
loop-pass-preserved g c =
    found_next c.args.len c.args.passes.now c.loop-pass.pass-index c.pass-item.result c.loop-pass.found c.earlier-found.result
    (record { caller = c.caller.result; front = c.front.result }) c.loop-pass-test.true c.pass-item.is c.loop-pass.invariant
    (rw (c.caller.ensures.caller, c.front.ensures) refl) c.earlier-found.ensures
