use Rattle.std.proofs.Common.{◌≡◌}
use Rattle.dl_desk.specs.Inside.Preparation.{Forgets}
use Rattle.dl_desk.specs.declared.reply.End.TheVariants.{Settled}
use Rattle.dl_desk.proofs.EndLemmas.{ended, stands_settled, stands_failed}
use Rattle.dl_desk.proofs.desk.Desk.end.Goals as goal

pub returns-in-Settled-clause-stands : goal.returns-in-Settled-clause-stands
returns-in-Settled-clause-stands c = λ history stands.
    let is : c.mark.new.self.book ≡ ended c.args.self.now.book c.args.number Settled = rw c.discard.ensures.book at c.mark.ensures in
    rw c.in-Settled.is (stands_settled c.args.self.now.book c.mark.new.self.book history c.args.number stands c.requires is)

pub returns-in-Failed-clause-stands : goal.returns-in-Failed-clause-stands
returns-in-Failed-clause-stands c = λ history stands.
    let forgets : Forgets c.args.self.now.book c.args.number c.forget_own.new.self.book = rw c.discard.ensures.book at c.forget_own.ensures.forgets in
    rw c.in-Failed.is
    (stands_failed c.args.self.now.book c.forget_own.new.self.book c.mark-in-Failed.new.self.book history c.args.number stands c.requires forgets
    c.mark-in-Failed.ensures)
