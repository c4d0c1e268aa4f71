use Rattle.dl_documents.proofs.AsLimits.{accepted, refused}
use Rattle.dl_documents.proofs.table_limits.table_limits.Goals as goal

pub returns-in-Ok-clause-ok : goal.returns-in-Ok-clause-ok
returns-in-Ok-clause-ok c =
    accepted c.args.numbers.items c.in_ok-limits.limits.items c.in-Ok.limits c.in_ok-limits.ensures c.in-Ok.ensures.ok.1 c.in-Ok.ensures.ok.0

pub returns-in-Err-clause-err : goal.returns-in-Err-clause-err
returns-in-Err-clause-err c =
    rw c.refusal.ensures (refused c.args.numbers.items c.in_ok-limits.limits.items c.in_ok-limits.ensures c.requires c.in-Err.fault c.in-Err.ensures.err)
