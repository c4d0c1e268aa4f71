use Rattle.std.proofs.Common.{ap, arith}
use Rattle.dl_history.specs.Pass.{Pass}
use Rattle.dl_history.proofs.pass.Pass.caller.Goals as goal

pub returns-clause-caller : goal.returns-clause-caller
returns-clause-caller g c = ap (λ (p : Pass). p.trace.caller) c.self.view_is

pub returns-clause-below : goal.returns-clause-below
returns-clause-below g c =
    let same = ap (λ (p : Pass). p.trace.caller) c.self.view_is in
    omega (arith, same, c.self.invariant.caller_is)
