use Rattle.std.proofs.Common.{subst, sym, string_bytes}
use Rattle.std.proofs.lemmas.Result.{IfErr-at_err, IfOk-at_ok}
use Rattle.dl_documents.specs.declared.input.Input.{Input}
use Rattle.dl_scope.specs.Faults.{RefusedAs}
use Rattle.dl_scope.specs.Headline.{Headline}
use Rattle.dl_plans.specs.Run.{IsDocument, Outputs, file_service, setup_of}
use Rattle.dl_plans.proofs.Runs.{made_of}
use Rattle.dl_plans.proofs.document.answered.Goals as goal

pub returns-in-Script-clause-ok : goal.returns-in-Script-clause-ok
returns-in-Script-clause-ok g c =
    made_of c.made.result c.output_of_script-given.result _ _ c.made.ensures.ok c.output_of_script-given.ensures.text
    (λ given is. subst (λ (i : Input). Outputs c.args.options.now i (string_bytes given.text)) (sym c.in-Script.is) is)

pub returns-in-Script-clause-err : goal.returns-in-Script-clause-err
returns-in-Script-clause-err g c = λ bytes document. c.made.ensures.err c.args.options.now bytes

pub returns-in-Ok-clause-ok : goal.returns-in-Ok-clause-ok
returns-in-Ok-clause-ok g c =
    made_of c.made-in-Ok.result c.output_of_report-given.result _ _ c.made-in-Ok.ensures.ok c.output_of_report-given.ensures.text
    (λ given is. subst (λ (i : Input). Outputs c.args.options.now i (string_bytes given.text)) (sym c.in-Plans.is)
    (c.in-Ok.report, IfOk-at_ok (Headline (file_service c.args.options.now c.in-Plans.file) c.in-Plans.file.plans.items) c.in-Ok.is c.served-left.ensures.headline, is))

pub returns-in-Ok-clause-err : goal.returns-in-Ok-clause-err
returns-in-Ok-clause-err g c = λ bytes document. c.made-in-Ok.ensures.err c.args.options.now bytes

pub returns-in-Err-clause-err : goal.returns-in-Err-clause-err
returns-in-Err-clause-err g c = λ bytes document.
    let file = c.in-Plans.file in (
      file,
      subst (IsDocument c.args.options.now bytes) c.in-Plans.is document,
      IfErr-at_err (RefusedAs (file_service c.args.options.now file) (setup_of c.args.options.now file) file.plans.items) c.in-Err.is c.served-left.ensures.refused,
    )
