use Rattle.std.proofs.Common.{map}
use Rattle.dl_history.specs.Accounts.{accounts_of}
use Rattle.dl_loader.proofs.Naming.{source_of_named}
use Rattle.dl_scope.proofs.Headlines.{headline_of, unfetched_of}
use Rattle.dl_scope.proofs.LateRefusals.{close_refused}
use Rattle.dl_scope.proofs.scope.serve_at.Goals as goal

pub returns-in-Ok-clause-headline : goal.returns-in-Ok-clause-headline
returns-in-Ok-clause-headline g c =
    let served = c.in_ok-served.ensures in
    headline_of g.L.LoaderName.service c.args.plans.items (map (λ a. a.items) c.in_ok-served.served.answers.items) c.in_ok-served.served.rounds.items
    c.in_ok-served.served.passes.items c.in-Ok.history c.in-Ok.ensures.accounts served.served c.in_ok-served.served.tally c.report.result
    c.in-Ok.ensures.closed served.counted c.report.ensures.report c.report.ensures.fetched

pub returns-in-Ok-clause-refused : goal.returns-in-Ok-clause-refused
returns-in-Ok-clause-refused g c =
    let served = c.in_ok-served.ensures in
    unfetched_of g.L.LoaderName.service c.args.plans.items (map (λ a. a.items) c.in_ok-served.served.answers.items) c.in_ok-served.served.rounds.items
    c.in_ok-served.served.passes.items c.in-Ok.history c.in-Ok.ensures.accounts served.served c.args.setup.now c.in_ok-served.served.tally c.report.result
    c.in-Ok.ensures.closed served.counted served.accepted c.report.ensures.fault

pub returns-in-Err-clause-refused : goal.returns-in-Err-clause-refused
returns-in-Err-clause-refused g c =
    close_refused g.L.LoaderName.service c.args.setup.now c.args.plans.items (accounts_of c.in_ok-served.served.passes.items) _ c.in_ok-served.ensures.accepted
    c.in-Err.ensures.fault

pub serve_by-requires-clause-source : goal.serve_by-requires-clause-source
serve_by-requires-clause-source g c lives outlives = source_of_named _ _ _ _ _ _ _ c.requires.source c.requires.names
