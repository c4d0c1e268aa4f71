use Rattle.std.proofs.Common.{◌∙◌, ap, subst, sym}
use Rattle.std.specs.Prelude.{Some, None, Err, option_copied}
use Rattle.dl_terms.specs.Tree.{the_item}
use Rattle.dl_terms.specs.TermAnswers.{answer}
use Rattle.dl_terms.specs.View.{term_view}
use Rattle.dl_terms.specs.declared.answer.Answer.TheVariants.{Value}
use Rattle.dl_picture.specs.Asking.{known_of}
use Rattle.dl_picture.specs.FaultPath.{at_item, ComesFrom, MayEndWith}
use Rattle.dl_picture.proofs.FaultOrigins.{item_fails, own_is}
use Rattle.dl_picture.proofs.knowledge.Knowledge.seek_item.Goals as goal

pub returns-in-None : goal.returns-in-None
returns-in-None c = λ is.
    let known = known_of c.args.self.now in
    let term = c.args.term.now in
    let o = c.own.result in
    let comes : ComesFrom known the_item o =
    item_fails known o (own_is the_item term o (None, sym is) c.own.ensures.part c.own.ensures.path) c.own.ensures.fault c.own.ensures.met in
    subst (λ i. MayEndWith known (at_item (option_copied i) (term_view term)) (Some (Err o))) (sym c.in-None.is) (subst (λ u. ComesFrom known u o) (sym is) comes)

pub returns-in_ok-to_json-in-Some : goal.returns-in_ok-to_json-in-Some
returns-in_ok-to_json-in-Some c = λ is.
    let known = known_of c.args.self.now in
    ap (λ i. answer known (at_item (option_copied i) (term_view c.args.term.now))) c.in-Some.is
    ∙ (ap (λ u. answer known (at_item (Some c.in-Some.item.now) u)) is ∙ ap (λ d. Some (Value d)) (sym (c.row.ensures ∙ c.in_ok-to_json-in-Some.ensures)))
