use Rattle.std.proofs.Common.{◌≡◌, ◌∙◌, ◌+◌, ap, subst, sym}
use Rattle.std.specs.Prelude.{OnOk}
use Rattle.dl_terms.specs.TermAnswers.{picked, target_in}
use Rattle.dl_terms.specs.declared.answer.Answer.TheVariants.{Value}
use Rattle.dl_picture.specs.Asking.{known_of}
use Rattle.dl_picture.specs.Seeking.{EndsInside, loads_of_value, value_in, value_of}
use Rattle.dl_picture.specs.TermLoads.{target_loads}
use Rattle.dl_picture.proofs.FaultOrigins.{over_follow}
use Rattle.dl_picture.proofs.PartAnswers.{no_more}
use Rattle.dl_picture.proofs.knowledge.Knowledge.seek_follow.Goals as goal

pub returns-in-Ok-clause-ends : goal.returns-in-Ok-clause-ends
returns-in-Ok-clause-ends c = λ t q whose is ends.
    let known = known_of c.args.self.now in
    let has = subst (EndsInside known t q) c.in-Ok.is (c.in_ok-value.ensures.ends t q whose (over_follow known t q c.args.field.now c.args.table.now is) ends) in
    c.follow_of.ensures.ends t q has whose is

pub returns-in-Err-clause-ends : goal.returns-in-Err-clause-ends
returns-in-Err-clause-ends c = λ t q whose is ends.
    let known = known_of c.args.self.now in
    subst (EndsInside known t q) c.in-Err.is (c.in_ok-value.ensures.ends t q whose (over_follow known t q c.args.field.now c.args.table.now is) ends)

pub returns-in-Ok-clause-loads : goal.returns-in-Ok-clause-loads
returns-in-Ok-clause-loads c =
    subst (λ v. OnOk c.follow_of.result (c.follow_of.new.asking.loads ≡ c.args.asking.now.loads
    + loads_of_value v (λ d. target_loads (target_in c.args.table.now (picked c.args.field.now (Value d)))))) (sym (ap value_in c.in-Ok.is) ∙ c.in_ok-value.ensures.value)
    c.follow_of.ensures.loads

pub returns-in-Err-clause-loads : goal.returns-in-Err-clause-loads
returns-in-Err-clause-loads c = no_more c.args.asking.now.loads (value_of c.args.part) _ (sym c.in_ok-value.ensures.value ∙ ap value_in c.in-Err.is)
