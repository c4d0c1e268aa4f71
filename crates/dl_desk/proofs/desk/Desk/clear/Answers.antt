use Rattle.std.proofs.Common.{◌≡◌, ◌∙◌, ap, length, refl, arith}
use Rattle.std.proofs.lemmas.List.{take_all}
use Rattle.dl_desk.specs.BatchBook.{BatchBook, Desk}
use Rattle.dl_desk.proofs.Steps.{stands_cleared}
use Rattle.dl_desk.proofs.desk.Desk.clear.Goals as goal
use Rattle.dl_desk.proofs.desk.Desk.clear.Goals.{then-is_some, else-is_some}

pub returns-clause-stands : goal.returns-clause-stands
returns-clause-stands c = λ history stands.
    let memo : c.self.inside.memo.entries ≡ c.args.self.now.book.memo =
    ap (λ (d : Desk). d.prepared.memo) c.self.view_is ∙ ap (λ (b : BatchBook). b.memo) c.discard.ensures.prepared in
    let entries = c.swap_remove.new.self.entries in
    rw (c.len-self-inside.ensures.len, inside)
    (stands_cleared _ _ _ history c.args.key.now (ap (λ (d : Desk). d.book) c.self.view_is ∙ c.discard.ensures.book) stands
    (λ q. rw (take_all (length entries) entries (omega arith)) (rw memo at (c.swap_remove.ensures.updates.0 q))))
  where
    inside : c.if-is_some.self-inside ≡ record c.self.inside { memo = c.swap_remove.new.self; forgotten = c.if-is_some.self-inside.forgotten }
    inside = elim c.if-is_some.branch [
      | then-is_some w ↦ rw w.self-inside-is refl
      | else-is_some w ↦ rw w.self-inside-is refl
    ]
