use Rattle.std.proofs.Common.{subst}
use Rattle.std.specs.Option.{IfSome}
use Rattle.dl_documents.specs.declared.input.Input.{Input}
use Rattle.dl_plans.specs.JoinedTables.{HasNames}
use Rattle.dl_plans.specs.Run.{IsDocument}
use Rattle.dl_plans.proofs.Runs.{document_read}
use Rattle.dl_plans.proofs.request.plan_file.Goals as goal

pub returns-in-Plans-clause-ok : goal.returns-in-Plans-clause-ok
returns-in-Plans-clause-ok c =
    let says = c.in-Ok in
    let bytes = c.args.bytes.now in
    subst (IsDocument c.args.options.now bytes) c.in-Plans.is (document_read c.args.options.now bytes says.input says.ensures.ok says.ensures.passes)

pub returns-in-Plans-clause-names : goal.returns-in-Plans-clause-names
returns-in-Plans-clause-names c =
    let says = c.in-Ok in
    subst (λ (i : Input). IfSome c.args.options.now.database (λ _. HasNames i says.names)) c.in-Plans.is says.ensures.names

pub returns-in-Ok-clause-err : goal.returns-in-Ok-clause-err
returns-in-Ok-clause-err c =
    let says = c.in-Ok in
    let bytes = c.args.bytes.now in (
      c.in-Script.field-0,
      subst (IsDocument c.args.options.now bytes) c.in-Script.is (document_read c.args.options.now bytes says.input says.ensures.ok says.ensures.passes),
    )
