use Rattle.std.proofs.Common.{◌≡◌, map, take, Some, refl}
use Rattle.dl_desk.specs.Inside.Preparation.{prepared_batch, book_room}
use Rattle.dl_desk.specs.Inside.TableBook.{IsOf}
use Rattle.dl_desk.proofs.FieldMarks.{desk_grown, desk_put}
use Rattle.dl_desk.proofs.MemoMembers.{none_stored}
use Rattle.dl_desk.proofs.TwoBooks.{length-begun, put_batches, batches_shown, same_book}
use Rattle.dl_desk.proofs.desk.Desk.join_of_table.Goals as goal

pub invariant_of-self : goal.invariant_of-self
invariant_of-self c = desk_grown _ (Some c.join.new.self) _ c.self.invariant c.in_err-batch.ensures.err_batches c.in_err-batch.ensures.err_fits

pub join-requires-clause-none : goal.join-requires-clause-none
join-requires-clause-none c = none_stored c.self.inside.prepared _ c.args.forgotten _ c.args.key.now c.self.invariant.prepared_book
    (rw (← c.self.view_is) at c.requires.may.none)

is_of : (c : goal.After-self-4-1) → IsOf c.self.inside.limits.max_batch c.self.inside.prepared.sent
    (take c.self.inside.prepared.begun (map prepared_batch c.self.inside.batches.items)) c.in-Some.tables.limits c.args.self.now.prepared
is_of c = record {
  batches = rw (← c.self.view_is) refl;
  sent_is = rw (← c.self.view_is) refl;
  tables = rw (← c.self.view_is, c.in-Some.is) refl;
  max_batch_is = rw (← c.self.view_is) refl;
}

room : (c : goal.After-self-4-1) → c.in_ok-batch.batch ≡ book_room c.args.self.now.prepared c.args.key.now
room c = c.in_ok-batch.ensures.room c.args.self.now.prepared (is_of c)

pub invariant_of-self-2 : goal.invariant_of-self-2
invariant_of-self-2 c = rw (c.max-self-inside.ensures, c.min-self-inside.ensures)
    (desk_put _ (Some c.join.new.self) _ (c.args.key.now, c.args.cell) _ c.self.invariant c.in_ok-batch.ensures.added c.in_ok-batch.ensures.next
    (rw (length-begun _ _ _ c.self.invariant.prepared_book) at (rw (← c.self.view_is) at c.requires.may.next)) (rw (← c.self.view_is) at c.requires.may.held)
    c.in_ok-batch.ensures.fits)

pub returns-clause-book : goal.returns-clause-book
returns-clause-book c = rw (c.in_ok-batch.ensures.limits, ← c.self.view_is, c.in-Some.is)
    (same_book _ _ _ _ _ _ _ refl (batches_shown _ _ _ _ c.self.inside.batches.items _ c.self.invariant.shown_book c.in_ok-batch.ensures.added))

pub returns-clause-joins : goal.returns-clause-joins
returns-clause-joins c = record {
  room = room c;
  book = rw (c.in_ok-batch.ensures.limits, ← c.self.view_is, c.in-Some.is, c.max-self-inside.ensures)
      (same_book _ _ _ _ _ _ _ refl (put_batches _ _ _ _ c.self.inside.batches.items _ c.self.invariant.prepared_book c.in_ok-batch.ensures.added
      c.in_ok-batch.ensures.next));
}
