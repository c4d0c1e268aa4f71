use Rattle.std.proofs.Common.{rules, ◌≡◌, Err}
use Rattle.dl_plans.specs.History.{IsNoHistory}
use Rattle.dl_plans.proofs.Runs.{no_history_all, run_has_history, run_refused}
use Rattle.dl_plans.proofs.history.run_history.Goals as goal

pub returns-in_err-given-clause-refused : goal.returns-in_err-given-clause-refused
returns-in_err-given-clause-refused g c =
    let same : c.from_residual-in_err-given.result ≡ Err c.in_err-given.field-0.0 = search rules in
    rw same (run_refused IsNoHistory no_history_all (g.R.Read.remaining c.args.reader.now) c.in_ok-bytes.bytes.items c.in_err-given.field-0.0 c.in_ok-bytes.ensures.bytes
    (rw c.deref.ensures.value at c.in_err-given.ensures.err))

pub returns-clause-ok : goal.returns-clause-ok
returns-clause-ok g c =
    run_has_history c.write_all.result (g.R.Read.remaining c.args.reader.now) c.in_ok-bytes.bytes.items c.in_ok-bytes.ensures.bytes
    (rw c.deref.ensures.value at c.in_ok-given.ensures.ok)
