use Rattle.std.proofs.Common.{◌≡◌, ◌∙◌, ◌+◌, suc, arith}
use Rattle.dl_history.specs.Journal.{waiting}
use Rattle.dl_history.proofs.BegunCells.{length-begun, begun_more}
use Rattle.dl_history.proofs.journal.Journal.begin_cells.Goals as goal

pub add_cell-requires-clause-cell : goal.add_cell-requires-clause-cell
add_cell-requires-clause-cell g c =
    let begun = length-begun c.args.self.now.cells c.loop-more.self.cells c.loop-more.more waiting c.loop-more.invariant.cells in
    rw (begun, ← c.requires.first, ← c.requires.row) c.in_ok-reader.ensures.cell

pub loop-more-preserved : goal.loop-more-preserved
loop-more-preserved g c =
    let next : c.loop-more.more + 1 ≡ suc c.loop-more.more = omega arith in
    let room = c.add_cell.ensures.room in
    let before = c.loop-more.invariant.room in
    record {
      history = c.add_cell.ensures.history ∙ c.loop-more.invariant.history;
      cells = rw next (begun_more c.args.self.now.cells c.loop-more.self.cells c.add_cell.new.self.cells c.loop-more.more waiting
          c.loop-more.invariant.cells c.add_cell.ensures.cells);
      events_room = c.add_cell.ensures.events_room ∙ c.loop-more.invariant.events_room;
      room = omega arith;
    }
