use Rattle.std.proofs.lemmas.Result.{IfOk-weaker}
use Rattle.dl_plans.specs.Run.{IsDocument}
use Rattle.dl_plans.proofs.Runs.{document_read}
use Rattle.dl_plans.proofs.document.output.Goals as goal

pub returns-in-Ok-clause-ok : goal.returns-in-Ok-clause-ok
returns-in-Ok-clause-ok g c =
    let says = c.in-Ok in
    let document : IsDocument c.args.options.now c.args.bytes.items says.input = document_read c.args.options.now c.args.bytes.items says.input
    (rw c.deref.ensures.value at says.ensures.ok) (rw c.deref.ensures.value at says.ensures.passes) in
    IfOk-weaker c.answered.result _ _ (λ given is. (says.input, document, is)) c.answered.ensures.ok

pub returns-in-Ok-clause-err : goal.returns-in-Ok-clause-err
returns-in-Ok-clause-err g c =
    let says = c.in-Ok in
    c.answered.ensures.err c.args.bytes.items (document_read c.args.options.now c.args.bytes.items says.input
    (rw c.deref.ensures.value at says.ensures.ok) (rw c.deref.ensures.value at says.ensures.passes))
