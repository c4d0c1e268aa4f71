use Rattle.std.proofs.Common.{◌≡◌, ◌∙◌, ap, sym, Bool, ℕ, List, take, cond, map, slice_get, ◌≤◌, length, refl}
use Rattle.dl_values.specs.Key.{Key}
use Rattle.dl_desk.specs.History.{has_member}
use Rattle.dl_desk.specs.BatchBook.{Batch}
use Rattle.dl_desk.specs.Inside.Preparation.{prepared_batch, members_of, book_room}
use Rattle.dl_desk.proofs.FieldMarks.{desk_grown, desk_put}
use Rattle.dl_desk.proofs.TableLemmas.{no_tables, fit_none}
use Rattle.dl_desk.proofs.MemoMembers.{none_stored}
use Rattle.dl_desk.proofs.TwoBooks.{members-taken, length-begun, low_choice, put_batches, below_begun, batches_shown, same_book}
use Rattle.dl_desk.proofs.desk.Desk.join_newest.Goals as goal

pub invariant_of-self-in_err-batch : goal.invariant_of-self-in_err-batch
invariant_of-self-in_err-batch c = desk_grown _ c.self.inside.tables _ c.self.invariant c.in_err-batch.ensures.err
    (fit_none _ _ c.self.inside.tables (no_tables c.self.inside.tables (rw (← c.self.view_is) at c.requires.mixes)))

pub join_mixed-requires-clause-newest : goal.join_mixed-requires-clause-newest
join_mixed-requires-clause-newest c = below_begun c.self.inside.prepared _ _ c.newest-newest.ensures.low

pub join_mixed-requires-clause-none : goal.join_mixed-requires-clause-none
join_mixed-requires-clause-none c = none_stored c.self.inside.prepared _ c.args.forgotten _ c.args.key.now c.self.invariant.prepared_book
    (rw (← c.self.view_is) at c.requires.may.none)

newest_low : (c : goal.After-self-3-1) → c.newest-newest.result ≤ c.self.inside.prepared.begun
newest_low c = below_begun c.self.inside.prepared _ _ c.newest-newest.ensures.low

next : (c : goal.After-self-3-1) → c.in_ok-batch.batch ≤ c.self.inside.prepared.begun
next c = low_choice _ c.self.inside.prepared.begun c.newest-newest.result c.in_ok-batch.batch (newest_low c) c.in_ok-batch.ensures.number

room : (c : goal.After-self-3-1) → c.in_ok-batch.batch ≡ book_room c.args.self.now.prepared c.args.key.now
room c =
    let inside = c.self.inside in
    let batches : List Batch = map prepared_batch inside.batches.items in
    let newest : ℕ = c.newest-newest.result in
    let key : Key = c.args.key.now in
    let has : List (Key × ℕ) → Bool = λ ms. has_member ms key in
    let number : c.in_ok-batch.batch ≡ cond (has (members_of (slice_get batches newest))) inside.prepared.begun newest = c.in_ok-batch.ensures.number in
    let taken = members-taken _ _ newest batches c.self.invariant.prepared_book (newest_low c) in
    let begun = length-begun _ _ batches c.self.invariant.prepared_book in
    let chosen : cond (has (members_of (slice_get (take inside.prepared.begun batches) newest))) (length (take inside.prepared.begun batches))
    newest ≡ book_room c.args.self.now.prepared key = rw (← c.self.view_is) (c.newest-newest.ensures.room key) in
    number
    ∙ ap (λ ms. cond (has ms) inside.prepared.begun newest) (sym taken)
    ∙ ap (λ n. cond (has (members_of (slice_get (take inside.prepared.begun batches) newest))) n newest) (sym begun)
    ∙ chosen

pub invariant_of-self-2 : goal.invariant_of-self-2
invariant_of-self-2 c = rw (c.max-self-inside.ensures, c.min-self-inside.ensures)
    (desk_put _ c.self.inside.tables _ (c.args.key.now, c.args.cell) _ c.self.invariant c.in_ok-batch.ensures.added (next c)
    (rw (length-begun _ _ _ c.self.invariant.prepared_book) at (rw (← c.self.view_is) at c.requires.may.next)) (rw (← c.self.view_is) at c.requires.may.held)
    (fit_none _ _ c.self.inside.tables (no_tables c.self.inside.tables (rw (← c.self.view_is) at c.requires.mixes))))

pub returns-clause-book : goal.returns-clause-book
returns-clause-book c = rw (← c.self.view_is)
    (same_book _ _ _ _ _ _ _ refl (batches_shown _ _ _ _ c.self.inside.batches.items _ c.self.invariant.shown_book c.in_ok-batch.ensures.added))

pub returns-clause-joins : goal.returns-clause-joins
returns-clause-joins c = record {
  room = room c;
  book = rw (← c.self.view_is, c.max-self-inside.ensures)
      (same_book _ _ _ _ _ _ _ refl (put_batches _ _ _ _ c.self.inside.batches.items _ c.self.invariant.prepared_book c.in_ok-batch.ensures.added (next c)));
}
