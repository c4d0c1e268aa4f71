use Rattle.std.proofs.Common.{◌≡◌, Err, rules}
use Rattle.dl_plans.proofs.request.draw_request.Goals as goal

pub returns-clause-ok : goal.returns-clause-ok
returns-clause-ok g c = (c.in_ok-report.report, c.in_ok-report.ensures.ok c.args.bytes.now c.in_ok-file.ensures.ok)

pub returns-in_err-report-clause-err : goal.returns-in_err-report-clause-err
returns-in_err-report-clause-err g c =
    let same : c.from_residual-in_err-report.result ≡ Err c.in_err-report.field-0.0 = search rules in
    rw same (c.in_err-report.ensures.err c.args.bytes.now c.in_ok-file.ensures.ok)
