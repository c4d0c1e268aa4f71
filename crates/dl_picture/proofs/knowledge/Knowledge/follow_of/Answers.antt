use Rattle.std.proofs.Common.{◌≡◌, ◌∙◌, Some, None, ap, sym}
use Rattle.serde_json.specs.Find.{get}
use Rattle.dl_terms.specs.TermAnswers.{target_answer, value_target}
use Rattle.dl_terms.specs.declared.answer.Answer.TheVariants.{Fault}
use Rattle.dl_picture.specs.Asking.{known_of}
use Rattle.dl_picture.proofs.FaultOrigins.{follow_fails, follow_lacks, own_is}
use Rattle.dl_picture.proofs.knowledge.Knowledge.follow_of.Goals as goal

pub returns-clause-ends : goal.returns-clause-ends
returns-clause-ends c = λ t q has whose is.
    let known = known_of c.args.self.now in
    let id = c.in-Some.id in
    let o = c.own.result in
    let found : get c.args.field.now c.args.value ≡ Some id = ap (λ n. get n c.args.value) (sym c.as_str.ensures) ∙ (sym c.in_ok-member.ensures ∙ c.in-Some.is) in
    let fails : target_answer known (value_target c.args.table.now id) ≡ Some (Fault o.fault) =
    ap (λ d. target_answer known (value_target c.args.table.now d)) (sym c.value.ensures.tree) ∙ (sym c.in_ok-answer_of_id-in-Some.ensures.answer ∙ (c.in-Some-Fault.is ∙ (ap Some c.in-Some-Fault.field-0-is ∙ ap (λ f. Some (Fault f)) (sym c.own.ensures.fault)))) in
    follow_fails known t q c.args.field.now c.args.table.now c.args.value id c.in_ok-into_value-in-Some-Fault.field-0 o
    (own_is t c.args.term.now o whose c.own.ensures.part c.own.ensures.path) has is found fails c.in_ok-into_value-in-Some-Fault.ensures c.own.ensures.met

pub returns-in-None-clause-ends : goal.returns-in-None-clause-ends
returns-in-None-clause-ends c = λ t q has whose is.
    let o = c.lacks.result in
    let missing : get c.args.field.now c.args.value ≡ None = ap (λ n. get n c.args.value) (sym c.as_str.ensures) ∙ (sym c.in_ok-member.ensures ∙ c.in-None.is) in
    follow_lacks (known_of c.args.self.now) t q c.args.field.now c.args.table.now c.args.value o
    (own_is t c.args.term.now o whose c.lacks.ensures.part c.lacks.ensures.path) has is missing c.lacks.ensures.fault c.lacks.ensures.met
