use Rattle.std.proofs.Common.{◌≡◌, ◌∙◌, Some, ap, sym}
use Rattle.dl_terms.specs.TermAnswers.{load_answer}
use Rattle.dl_terms.specs.declared.answer.Answer.TheVariants.{Fault}
use Rattle.dl_picture.specs.Asking.{known_of}
use Rattle.dl_picture.proofs.FaultOrigins.{load_fails, own_is}
use Rattle.dl_picture.proofs.knowledge.Knowledge.seek_load.Goals as goal

pub returns-in-Some-Fault-clause-ends : goal.returns-in-Some-Fault-clause-ends
returns-in-Some-Fault-clause-ends c = λ t whose is.
    let known = known_of c.args.self.now in
    let o = c.own.result in
    let fails : load_answer known c.args.key.now ≡ Some (Fault o.fault) =
    sym c.in_ok-answer_of_key.ensures.answer ∙ (c.in-Some-Fault.is ∙ (ap Some c.in-Some-Fault.field-0-is ∙ ap (λ f. Some (Fault f)) (sym c.own.ensures.fault))) in
    load_fails known t c.args.key.now o (own_is t c.args.term.now o whose c.own.ensures.part c.own.ensures.path) is fails c.own.ensures.met
