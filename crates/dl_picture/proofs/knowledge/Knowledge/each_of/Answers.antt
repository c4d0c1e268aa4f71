use Rattle.std.proofs.Common.{◌≡◌, ◌∙◌, ◌+◌, None, Some, ap, subst, sym, arith}
use Rattle.std.specs.Prelude.{OnOk}
use Rattle.serde_json.specs.Find.{get}
use Rattle.serde_json.specs.View.{view}
use Rattle.dl_terms.specs.TermAnswers.{field_or, targets_in}
use Rattle.dl_picture.specs.Asking.{known_of}
use Rattle.dl_picture.specs.TermLoads.{targets_loads}
use Rattle.dl_picture.proofs.FaultOrigins.{each_lacks, own_is}
use Rattle.dl_picture.proofs.PartAnswers.{no_fields}
use Rattle.dl_picture.proofs.knowledge.Knowledge.each_of.Goals as goal

pub returns-in-None-clause-ends : goal.returns-in-None-clause-ends
returns-in-None-clause-ends c = λ t q has whose is.
    let o = c.lacks.result in
    let missing : get c.args.field.now c.args.value ≡ None = ap (λ n. get n c.args.value) (sym c.as_str.ensures) ∙ (sym c.in_ok-member.ensures ∙ c.in-None.is) in
    each_lacks (known_of c.args.self.now) t q c.args.field.now c.args.table.now c.args.value o
    (own_is t c.args.term.now o whose c.lacks.ensures.part c.lacks.ensures.path) has is missing c.lacks.ensures.fault c.lacks.ensures.met

pub returns-clause-ends : goal.returns-clause-ends
returns-clause-ends c = λ t q has whose is.
    let ids = view c.value.result.now in
    let found : get c.args.field.now c.args.value ≡ Some ids = ap (λ n. get n c.args.value) (sym c.as_str.ensures)
    ∙ (sym c.in_ok-member.ensures ∙ (c.in-Some.is ∙ ap Some (sym c.value.ensures.tree))) in
    c.seek_list.ensures.ends t q c.args.value c.args.field.now has found whose is

pub returns-in-None-clause-loads : goal.returns-in-None-clause-loads
returns-in-None-clause-loads c =
    let missing : get c.args.field.now c.args.value ≡ None = ap (λ n. get n c.args.value) (sym c.as_str.ensures) ∙ (sym c.in_ok-member.ensures ∙ c.in-None.is) in
    omega (arith, no_fields c.args.field.now c.args.table.now c.args.value missing)

pub returns-clause-loads : goal.returns-clause-loads
returns-clause-loads c =
    let found : Some (view c.value.result.now) ≡ get c.args.field.now c.args.value =
    ap Some c.value.ensures.tree ∙ (sym c.in-Some.is ∙ (c.in_ok-member.ensures ∙ ap (λ n. get n c.args.value) c.as_str.ensures)) in
    subst (λ o. OnOk c.seek_list.result (c.seek_list.new.asking.loads ≡ c.args.asking.now.loads + targets_loads (targets_in c.args.table.now (field_or o)))) found
    c.seek_list.ensures.loads
