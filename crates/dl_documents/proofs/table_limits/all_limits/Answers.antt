use Rattle.std.proofs.Common.{refl, inr}
use Rattle.dl_documents.specs.Inside.OwnLimits.{TopOutside}
use Rattle.dl_documents.specs.OwnLimits.{own}
use Rattle.dl_documents.proofs.AsLimits.{are_inside}
use Rattle.dl_documents.proofs.table_limits.all_limits.Goals as goal

pub returns-in-Err-clause-err : goal.returns-in-Err-clause-err
returns-in-Err-clause-err c =
    inr (TopOutside c.in-Err.fault refl (are_inside c.args.tables.items (own c.in_ok-tables.tables) c.in_ok-tables.ensures.ok.limits) c.in-Err.ensures.err)
