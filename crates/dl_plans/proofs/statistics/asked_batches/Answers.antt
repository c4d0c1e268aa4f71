use Rattle.dl_desk.specs.Events.{atoms}
use Rattle.dl_history.specs.History.{past}
use Rattle.dl_plans.specs.Statistics.{is_asked}
use Rattle.dl_plans.proofs.AskedKeys.{all_asked}
use Rattle.dl_plans.proofs.statistics.asked_batches.Goals as goal

pub returns-in-None : goal.returns-in-None
returns-in-None c =
    all_asked (is_asked c.args.names.now) (atoms (past c.args.batches.now)) c.loop-number.number c.loop-number.asked c.loop-number.invariant.low
    c.in-None.ensures.none c.loop-number.invariant.asked
