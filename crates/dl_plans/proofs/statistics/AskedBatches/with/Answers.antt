use Rattle.std.proofs.Common.{arith}
use Rattle.std.proofs.lemmas.Bool.{lt-ltb}
use Rattle.dl_plans.proofs.AskedKeys.{none_more, some_more}
use Rattle.dl_plans.proofs.statistics.AskedBatches.with.Goals as goal

pub returns-then-count-eq0 : goal.returns-then-count-eq0
returns-then-count-eq0 c = λ counts. none_more counts c.args.count c.args.self c.if-count-eq0.true

pub returns : goal.returns
returns c = λ counts. some_more counts c.args.count c.args.self _ (lt-ltb 0 c.args.count (omega arith)) c.in_ok-sum.ensures c.in_ok-sum-2.ensures
