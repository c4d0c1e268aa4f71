use Rattle.std.proofs.Common.{◌∙◌, sym, ◌≤◌, length, map, take, arith}
use Rattle.std.proofs.lemmas.List.{length-take}
use Rattle.dl_desk.specs.Inside.Preparation.{shown_batch}
use Rattle.dl_desk.proofs.TableLemmas.{told_again}
use Rattle.dl_desk.proofs.table_book.TableBook.tell.Goals as goal
use Rattle.dl_desk.proofs.table_book.TableBook.tell.Goals.{else-number-next-via-then-number-next+else-last-next, else-number-next-via-else-number-next}

pub returns-else-number-next-clause-begun : goal.returns-else-number-next-clause-begun
returns-else-number-next-clause-begun c = λ is. elim c.else-number-next.branch [
  | else-number-next-via-then-number-next+else-last-next w ↦
      let shown = take c.args.standing.shown.begun (map shown_batch c.args.batches.now) in
      let high : length shown ≤ c.args.number = rw length-take (let l = c.requires.shown in omega (arith, is)) in
      told_again c.args.self.now shown c.args.table.now c.args.last c.args.number high (w.if-last-next.false ∙ sym is) c.requires.told
  | else-number-next-via-else-number-next w ↦ absurd (w.if-number-next.false is)
]
