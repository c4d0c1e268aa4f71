use Rattle.std.proofs.Common.{◌∙◌, sym, ap}
use Rattle.std.specs.Prelude.{option_copied}
use Rattle.std.proofs.lemmas.Result.{IfOk-weaker}
use Rattle.dl_plans.specs.Statistics.{is_asked}
use Rattle.dl_plans.proofs.AskedKeys.{loads_end, loads_next}
use Rattle.dl_plans.proofs.statistics.with_event.Goals as goal

pub returns-in-Some : goal.returns-in-Some
returns-in-Some c =
    IfOk-weaker c.sum.result _ _
    (λ more is. λ events at got so_far. loads_next (is_asked c.args.names.now) events at c.in-Some.event.now c.loaded_keys.result.now c.args.loads
    c.asked_keys.result more (sym got ∙ ap option_copied c.in-Some.is) c.loaded_keys.ensures c.asked_keys.ensures is so_far)
    c.sum.ensures

pub returns-in-None : goal.returns-in-None
returns-in-None c = λ events at got so_far.
    loads_end (is_asked c.args.names.now) events at c.args.loads (sym got ∙ ap option_copied c.in-None.is) so_far
