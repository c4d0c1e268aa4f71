use Rattle.std.proofs.Common.{refl}
use Rattle.dl_history.proofs.PassLemmas.{pass_ticket}
use Rattle.dl_history.proofs.pass.Pass.add_ticket.Goals as goal

pub invariant_of-self : goal.invariant_of-self
invariant_of-self g c =
    pass_ticket c.args.self.now c.args.cell c.self.invariant c.self.view_is c.requires.room c.requires.answered c.push_reserved.ensures.items refl
    c.push_reserved.ensures.capacity refl
