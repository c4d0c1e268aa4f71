use Rattle.std.proofs.Common.{rules, ◌≡◌, Err, length, arith, refl}
use Rattle.dl_scope.specs.Setup.{service_of}
use Rattle.dl_scope.proofs.scope.serve.Goals as goal

pub returns-in_err-callers-clause-refused : goal.returns-in_err-callers-clause-refused
returns-in_err-callers-clause-refused g c =
    let same : c.from_residual.result ≡ Err c.in_err-callers.field-0.0 = search rules in
    rw same (c.in_err-callers.ensures.refused (service_of c.args.setup (length c.args.plans.items) (g.S.Source.answer c.args.source.now)) c.args.setup
    c.args.plans.items (omega (arith, c.len.ensures)) refl)
