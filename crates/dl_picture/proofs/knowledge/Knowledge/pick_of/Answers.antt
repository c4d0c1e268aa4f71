use Rattle.std.proofs.Common.{◌≡◌, ◌∙◌, None, ap, sym}
use Rattle.serde_json.specs.Find.{get}
use Rattle.dl_picture.specs.Asking.{known_of}
use Rattle.dl_picture.proofs.FaultOrigins.{own_is, pick_lacks}
use Rattle.dl_picture.proofs.knowledge.Knowledge.pick_of.Goals as goal

pub returns-in-None : goal.returns-in-None
returns-in-None c = λ t q has whose is.
    let o = c.lacks.result in
    let missing : get c.args.field.now c.args.value ≡ None = ap (λ n. get n c.args.value) (sym c.as_str.ensures) ∙ (sym c.in_ok-member.ensures ∙ c.in-None.is) in
    pick_lacks (known_of c.args.self.now) t q c.args.field.now c.args.value o (own_is t c.args.term.now o whose c.lacks.ensures.part c.lacks.ensures.path) has is missing
    c.lacks.ensures.fault c.lacks.ensures.met
