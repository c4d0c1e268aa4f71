use Rattle.std.proofs.Common.{rules}
use Rattle.dl_loader.proofs.DueLemmas.{due_more}
use Rattle.dl_loader.proofs.dues.dues.Goals as goal

pub new-requires : goal.new-requires
new-requires c = c.requires c.loop-place.place c.loop-place-test.true

pub loop-place-preserved : goal.loop-place-preserved
loop-place-preserved c =
    let count = c.loop-place.invariant.count in
    record {
      count = search rules;
      room = rw c.push_reserved.ensures.capacity c.loop-place.invariant.room;
      due = due_more c.args.call.now c.args.at c.loop-place.place c.args.cells.now c.loop-place.dues.items c.push_reserved.new.self.items c.in_ok-new.field-0
          c.loop-place.invariant.due count c.loop-place-test.true c.in_ok-new.ensures.cell c.in_ok-new.ensures.outcome c.in_ok-new.ensures.at
          c.push_reserved.ensures.items;
    }
