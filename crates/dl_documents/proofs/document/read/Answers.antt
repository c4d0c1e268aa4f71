use Rattle.std.proofs.Common.{◌≡◌, ◌⊎◌, ℕ, List, Bool, true, false, Err, rules, subst}
use Rattle.std.proofs.lemmas.Result.{MatchResult-weaker}
use Rattle.serde_json.specs.Data.{Data}
use Rattle.dl_documents.specs.Faults.{AppliesTo, IsLeast}
use Rattle.dl_documents.specs.declared.fault.PlanFault.{PlanFault}
use Rattle.dl_documents.specs.declared.fault.PlanFault.TheVariants.{OutOfMemory}
use Rattle.dl_documents.specs.Inside.Results.{RefusedFor}
use Rattle.dl_documents.specs.Inside.Top.{top_data}
use Rattle.dl_documents.specs.Document.{IsTextOf, Spells}
use Rattle.dl_documents.specs.OverDatabase.{read_as}
use Rattle.dl_documents.proofs.Texts.{refused_in, passes}
use Rattle.dl_documents.proofs.document.read.Goals as goal

either : (bytes : List ℕ) (f : PlanFault) (has : Bool) → (f ≡ OutOfMemory) ⊎ IsLeast (AppliesTo (read_as false) bytes) f
    → (f ≡ OutOfMemory) ⊎ IsLeast (AppliesTo (read_as true) bytes) f → (f ≡ OutOfMemory) ⊎ IsLeast (AppliesTo (read_as has) bytes) f
either bytes f false alone over = alone
either bytes f true alone over = over

pub returns-in_err-top-clause-err : goal.returns-in_err-top-clause-err
returns-in_err-top-clause-err c =
    let same : c.from_residual.result ≡ Err c.in_err-top.field-0.0 = search rules in
    rw same (either c.args.bytes.now c.in_err-top.field-0.0 c.args.has_database c.in_err-top.ensures.err c.in_err-top.ensures.over)

pub returns-clause-ok : goal.returns-clause-ok
returns-clause-ok c =
    let d = top_data c.in_ok-top.top in
    let text : IsTextOf c.args.bytes.now d = search rules in
    MatchResult-weaker c.input.result c.input.ensures.ok
    (λ i h. (d, text, subst (λ (e : Data). Spells e i) c.read_as.ensures.data h)) (λ _ h. h)

pub returns-clause-passes : goal.returns-clause-passes
returns-clause-passes c =
    let d = top_data c.in_ok-top.top in
    let text : IsTextOf c.args.bytes.now d = search rules in
    MatchResult-weaker c.input.result c.input.ensures.ok
    (λ i h. passes (read_as c.args.has_database) _ d i c.in_ok-top.ensures.few text (subst (λ (e : Data). Spells e i) c.read_as.ensures.data h)) (λ _ h. h)

pub returns-clause-err : goal.returns-clause-err
returns-clause-err c =
    let d = top_data c.in_ok-top.top in
    let text : IsTextOf c.args.bytes.now d = search rules in
    MatchResult-weaker c.input.result c.input.ensures.err (λ _ h. h)
    (λ f h. refused_in (read_as c.args.has_database) _ d f c.in_ok-top.ensures.few text (subst (λ (e : Data). RefusedFor e f) c.read_as.ensures.data h))
