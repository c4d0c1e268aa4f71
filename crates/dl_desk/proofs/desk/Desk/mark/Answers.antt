use Rattle.std.proofs.Common.{ap, ◌<◌, length, take, map, refl, arith}
use Rattle.std.proofs.lemmas.List.{length-map, length-take}
use Rattle.std.proofs.lemmas.Option.{slice_get_read}
use Rattle.dl_desk.specs.BatchBook.{BatchBook}
use Rattle.dl_desk.specs.Inside.Preparation.{shown_batch}
use Rattle.dl_desk.proofs.TwoBooks.{same_book}
use Rattle.dl_desk.proofs.BatchEnd.{IsMarked, desk_marked, batches_marked}
use Rattle.dl_desk.proofs.desk.Desk.mark.Goals as goal

marked : (c : goal.After-self-1) → IsMarked c.self.inside.prepared.begun c.self.inside.shown.begun c.args.number c.self.inside.batches.items
    c.index_mut.result.now c.finish.new.self c.args.end
marked c =
    let low : c.args.number < length (take c.self.inside.shown.begun (map shown_batch c.self.inside.batches.items)) =
    rw (← c.self.view_is) at c.requires.number in
    let within : c.args.number < length c.self.inside.batches.items = let l = rw (length-take, length-map) at low in omega arith in
    record {
      same = let e = rw (← c.self.view_is) at c.requires.nothing_prepared in ap (λ (b : BatchBook). b.batches) e;
      low = low;
      at = slice_get_read c.self.inside.batches.items (length c.self.inside.batches.items) c.args.number c.index_mut.result.now refl within
          c.index_mut.ensures.value;
      prepared_end = c.finish.ensures.prepared;
      shown_end = c.finish.ensures.shown;
    }

pub invariant_of-self : goal.invariant_of-self
invariant_of-self c = desk_marked _ _ c.index_mut.result.now c.finish.new.self c.args.end c.self.invariant (marked c)

pub returns : goal.returns
returns c = rw (← c.self.view_is) (same_book _ _ _ _ _ _ _ refl (batches_marked c.self.inside.prepared.begun c.self.inside.shown.begun c.args.number
    c.self.inside.batches.items c.index_mut.result.now c.finish.new.self c.args.end (marked c)))
