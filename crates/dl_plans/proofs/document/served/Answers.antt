use Rattle.std.proofs.Common.{length, subst}
use denote.Param.Send.{sendable}
use Rattle.std.specs.Result.{IfOk, IfErr}
use Rattle.dl_values.specs.Answering.{by_function}
use Rattle.dl_source.specs.Answer.{answer_of}
use Rattle.dl_source.specs.Tables.{Tables}
use Rattle.dl_scope.specs.Faults.{RefusedAs}
use Rattle.dl_scope.specs.Headline.{Headline}
use Rattle.dl_scope.specs.Setup.{service_of}
use Rattle.dl_plans.specs.Run.{setup_of}
use Rattle.dl_plans.proofs.ThreadSafety.{JoinedTables-sync}
use Rattle.dl_plans.proofs.document.served.Goals as goal

pub returns-clause-headline : goal.returns-clause-headline
returns-clause-headline g c =
    let plans = c.args.file.plans.items in
    subst (λ (tables : Tables). IfOk c.serve-left.result (Headline
    (service_of (setup_of c.args.options.now c.args.file) (length plans) (by_function (answer_of tables))) plans))
    c.new-source.ensures c.serve-left.ensures.headline

pub returns-clause-refused : goal.returns-clause-refused
returns-clause-refused g c =
    let plans = c.args.file.plans.items in
    let setup = setup_of c.args.options.now c.args.file in
    subst (λ (tables : Tables). IfErr c.serve-left.result (RefusedAs (service_of setup (length plans) (by_function (answer_of tables))) setup plans))
    c.new-source.ensures c.serve-left.ensures.refused

pub serve-left-requires-sync-S : goal.serve-left-requires-sync-S
serve-left-requires-sync-S g c κs within = search (JoinedTables-sync, sendable) depth 10
