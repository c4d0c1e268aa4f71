use Rattle.std.proofs.Common.{◌∙◌, ◌<◌, ◌≤◌, inl, inr, length, length-append, refl, arith}
use Rattle.std.proofs.lemmas.Option.{slice_get_read}
use Rattle.dl_desk.specs.Inside.Marks.{MakesRoom}
use Rattle.dl_desk.proofs.TwoBooks.{low_choice}
use Rattle.dl_desk.proofs.memo_and_batches.join.Goals as goal
use Rattle.dl_desk.proofs.memo_and_batches.join.Goals.{then-number-len+in_ok-new+in_ok-push, else-number-len}

pub returns-clause-added : goal.returns-clause-added
returns-clause-added c = record {
  grown = c.if-number-len.batches.items;
  grows = grows;
  before = c.index_mut.result.now;
  then = c.push-2.new.self;
  low = low;
  at = slice_get_read _ _ _ _ refl low c.index_mut.ensures.value;
  shown = c.push-2.ensures.shown;
  added = c.in_ok-push-2.ensures.added;
  is = refl;
}
  where
    grows : MakesRoom c.args.batches.now.items c.if-number-len.batches.items
    grows = elim c.if-number-len.branch [
      | then-number-len+in_ok-new+in_ok-push w ↦ inr (rw w.batches-is (w.in_ok-push.ensures.items
          ∙ (rw (w.in_ok-new.ensures, c.choose.ensures.kept) refl)))
      | else-number-len w ↦ inl (rw w.batches-is c.choose.ensures.kept)
    ]

    below : c.in_ok-number.number ≤ length c.choose.new.batches.items
    below =
        let n : c.in_ok-number.number ≤ c.args.choice.next =
        low_choice _ c.args.choice.next c.args.choice.newest c.in_ok-number.number c.requires.newest c.in_ok-number.ensures.number in
        let next = c.requires.next in
        rw c.choose.ensures.kept (omega (arith, c.args.batches.now.ok.0))

    low : c.in_ok-number.number < length c.if-number-len.batches.items
    low = elim c.if-number-len.branch [
      | then-number-len+in_ok-new+in_ok-push w ↦ rw (w.batches-is, w.in_ok-push.ensures.items, length-append) (omega arith)
      | else-number-len w ↦ rw w.batches-is (let l = below in omega (arith, c.choose.new.batches.ok.0))
    ]
