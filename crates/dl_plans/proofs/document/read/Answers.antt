use Rattle.std.proofs.Common.{◌≡◌, Err, rules}
use Rattle.serde_json.specs.View.{view}
use Rattle.dl_plans.specs.JoinedTables.{HasNames}
use Rattle.dl_plans.proofs.Runs.{passes_alone, passes_over, refused_alone, refused_over}
use Rattle.dl_plans.proofs.TableNames.{names_of_tables, if_some}
use Rattle.dl_plans.proofs.document.read.Goals as goal

pub returns-in_ok-names-in-Some-clause-names : goal.returns-in_ok-names-in-Some-clause-names
returns-in_ok-names-in-Some-clause-names c =
    let names = c.in_ok-names-in-Some.names in
    let says = c.in_ok-document-in-Some in
    if_some c.args.database.now (HasNames says.input names) (names_of_tables names (view says.document) says.input says.ensures.ok.1 c.in_ok-names-in-Some.ensures)

pub returns-in_err-input-in-None-clause-err : goal.returns-in_err-input-in-None-clause-err
returns-in_err-input-in-None-clause-err c =
    let fault = c.in_err-input-in-None.field-0.0 in
    let same : c.from_residual.result ≡ Err fault = search rules in
    rw same (refused_alone c.args.database.now c.args.bytes.now fault c.in-None.is c.in_err-input-in-None.ensures.err)

pub returns-in_err-document-in-Some-clause-err : goal.returns-in_err-document-in-Some-clause-err
returns-in_err-document-in-Some-clause-err c =
    let fault = c.in_err-document-in-Some.field-0.0 in
    let same : c.from_residual-in_err-document-in-Some.result ≡ Err fault = search rules in
    rw same (refused_over c.args.database.now c.args.bytes.now _ fault c.in-Some.is c.in_err-document-in-Some.ensures.err)

pub returns-in_ok-input-in-None-clause-passes : goal.returns-in_ok-input-in-None-clause-passes
returns-in_ok-input-in-None-clause-passes c = passes_alone c.args.database.now c.args.bytes.now c.in-None.is c.in_ok-input-in-None.ensures.passes

pub returns-in_ok-names-in-Some-clause-passes : goal.returns-in_ok-names-in-Some-clause-passes
returns-in_ok-names-in-Some-clause-passes c = passes_over c.args.database.now c.args.bytes.now _ c.in-Some.is c.in_ok-document-in-Some.ensures.passes
