use Rattle.std.proofs.lemmas.Result.{IfErr-at_err, IfOk-at_ok}
use Rattle.dl_scope.specs.Faults.{RefusedAs}
use Rattle.dl_scope.specs.Headline.{Headline}
use Rattle.dl_plans.specs.Run.{file_service, setup_of}
use Rattle.dl_plans.proofs.request.served.Goals as goal

pub returns-in-Ok-clause-ok : goal.returns-in-Ok-clause-ok
returns-in-Ok-clause-ok g c = λ bytes document.
    let file = c.args.file in
    (file, document, IfOk-at_ok (Headline (file_service c.args.options.now file) file.plans.items) c.in-Ok.is c.served-left.ensures.headline)

pub returns-in-Err-clause-err : goal.returns-in-Err-clause-err
returns-in-Err-clause-err g c = λ bytes document.
    let file = c.args.file in (
      file,
      document,
      IfErr-at_err (RefusedAs (file_service c.args.options.now file) (setup_of c.args.options.now file) file.plans.items) c.in-Err.is c.served-left.ensures.refused,
    )
