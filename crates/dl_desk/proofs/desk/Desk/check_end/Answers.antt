use Rattle.std.proofs.Common.{◌≡◌, ◌∙◌, sym, ◌<◌, length, map, slice_get, Option, Some, None, false, refl, arith}
use Rattle.std.specs.Option.{is_some}
use Rattle.std.proofs.lemmas.Option.{slice_get_read, slice_get-map}
use Rattle.std.proofs.lemmas.List.{length-map}
use Rattle.dl_desk.specs.Inside.Preparation.{shown_batch}
use Rattle.dl_desk.specs.declared.reply.End.{End}
use Rattle.dl_desk.proofs.DispatchJobs.{get-take}
use Rattle.dl_desk.proofs.TwoBooks.{length-begun}
use Rattle.dl_desk.proofs.desk.Desk.check_end.Goals as goal

none : (o : Option End) → is_some o ≡ false → o ≡ None
none None is = refl
none (Some e) is = absurd cc

pub returns-clause-ok : goal.returns-clause-ok
returns-clause-ok c =
    let low : c.args.number < length c.self.inside.batches.items =
    let s = rw length-map at c.self.invariant.shown_book.all_stored in omega arith in
    let got : slice_get c.self.inside.batches.items c.args.number ≡ Some c.index.result.now = slice_get_read _ _ _ _ refl low c.index.ensures in
    let at : slice_get (map shown_batch c.self.inside.batches.items) c.args.number ≡ Some (shown_batch c.index.result.now) = rw (slice_get-map, got) refl in
    rw (← c.self.view_is) (record {
      is_begun = rw (length-begun _ _ _ c.self.invariant.shown_book) c.if-number-self.false;
      is_sent = c.if-number-self-2.false;
      no_end = rw (get-take _ _ _ c.if-number-self.false, at, ← c.ended.ensures) (none _ (sym c.is_some.ensures ∙ c.if-is_some.false));
    })
