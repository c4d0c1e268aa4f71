use Rattle.std.proofs.lemmas.Result.{IfOk-weaker}
use Rattle.std.proofs.Common.{string_bytes}
use Rattle.dl_plans.specs.Statistics.{is_asked}
use Rattle.dl_plans.proofs.AskedKeys.{text_of}
use Rattle.dl_plans.proofs.statistics.database_line.Goals as goal

pub returns : goal.returns
returns c =
    IfOk-weaker c.numbers_line.result _ _
    (λ line is. text_of (is_asked c.args.names.now) c.args.history.now.events c.batches.result c.events.result.now c.in_ok-asked.asked c.in_ok-loads.loads
    (string_bytes line) c.batches.ensures c.events.ensures c.in_ok-asked.ensures c.in_ok-loads.ensures is)
    c.numbers_line.ensures
