use Rattle.std.proofs.Common.{◌∙◌, ap, length}
use Rattle.dl_history.specs.Accounts.{accounts_of}
use Rattle.dl_loader.proofs.CloseLemmas.{each_present}
use Rattle.dl_loader.proofs.loader.close.check.Goals as goal

pub returns-in-Some-clause-fault : goal.returns-in-Some-clause-fault
returns-in-Some-clause-fault g c =
    let each = each_present c.args.callers g.L.LoaderName.service.callers c.present-got.result (accounts_of c.args.passes.now) c.requires.callers
    c.present-got.ensures c.if-got-callers.false in
    (each, c.len-len.ensures ∙ ap length c.journal.ensures.history, c.in-Some.first.caller, c.in-Some.ensures.some)

pub audit-requires-clause-each : goal.audit-requires-clause-each
audit-requires-clause-each g c =
    each_present c.args.callers g.L.LoaderName.service.callers c.present-got.result (accounts_of c.args.passes.now) c.requires.callers
    c.present-got.ensures c.if-got-callers.false
