use Rattle.std.proofs.Common.{◌≡◌, ◌<◌, length, map, slice_get, Some, refl, arith}
use Rattle.std.proofs.lemmas.Bool.{le-leb, lt-leb}
use Rattle.std.proofs.lemmas.Option.{slice_get_read, slice_get-map}
use Rattle.std.proofs.lemmas.List.{length-map}
use Rattle.dl_desk.specs.Inside.Preparation.{prepared_batch}
use Rattle.dl_desk.proofs.DispatchJobs.{get-take}
use Rattle.dl_desk.proofs.TwoBooks.{length-begun}
use Rattle.dl_desk.proofs.desk.Desk.is_open.Goals as goal

pub returns-then-self-number : goal.returns-then-self-number
returns-then-self-number c =
    let below = rw (length-begun _ _ _ c.self.invariant.prepared_book) at (rw (← c.self.view_is) at c.requires) in
    let low : c.args.number < length c.self.inside.batches.items =
    let s = rw length-map at c.self.invariant.prepared_book.all_stored in omega arith in
    let got : slice_get c.self.inside.batches.items c.args.number ≡ Some c.index.result.now = slice_get_read _ _ _ _ refl low c.index.ensures in
    let at : slice_get (map prepared_batch c.self.inside.batches.items) c.args.number ≡ Some (prepared_batch c.index.result.now) =
    rw (slice_get-map, got) refl in
    rw (← c.self.view_is, get-take _ _ _ below, at, le-leb _ _ c.if-self-number.true, c.len.ensures, c.max_batch.ensures.value) refl

pub returns-else-self-number : goal.returns-else-self-number
returns-else-self-number c = rw (← c.self.view_is, lt-leb _ _ c.if-self-number.false) refl
