use Rattle.dl_plans.proofs.request.serve_request.Goals as goal

pub returns-clause-ok : goal.returns-clause-ok
returns-clause-ok g c = c.served.ensures.ok c.args.bytes.now c.in_ok-file.ensures.ok

pub returns-clause-err : goal.returns-clause-err
returns-clause-err g c = c.served.ensures.err c.args.bytes.now c.in_ok-file.ensures.ok
