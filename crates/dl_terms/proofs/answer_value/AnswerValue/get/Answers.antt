use Rattle.std.proofs.Common.{◌≡◌, subst}
use Rattle.std.specs.Prelude.{IfOk}
use Rattle.serde_json.specs.Find.{get}
use Rattle.dl_terms.specs.Inside.Member.{member_data}
use Rattle.dl_terms.proofs.AnswerParts.{object_fits, object_tree}
use Rattle.dl_terms.proofs.answer_value.AnswerValue.get.Goals as goal

pub object_member-requires : goal.object_member-requires
object_member-requires c = (object_fits c.self.inside.shape c.in-Object.names c.in-Object.values c.in-Object.is c.self.invariant).long

pub returns-in-Object-clause-member : goal.returns-in-Object-clause-member
returns-in-Object-clause-member c =
    subst (λ d. IfOk c.object_member.result (λ m. member_data m ≡ get c.args.name.now d))
    (object_tree c.self.inside.shape c.in-Object.names c.in-Object.values c.args.self.now c.in-Object.is c.self.invariant c.self.view_is)
    c.object_member.ensures.member
