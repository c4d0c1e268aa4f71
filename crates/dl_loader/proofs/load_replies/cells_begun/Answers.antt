use Rattle.std.proofs.Common.{arith}
use Rattle.dl_desk.specs.declared.reply.LoadReply.TheVariants.{Hit, Fresh}
use Rattle.dl_loader.proofs.NewCells.{begun_next}
use Rattle.dl_loader.proofs.load_replies.cells_begun.Goals.{in-Hit, in-Fresh}
use Rattle.dl_loader.proofs.load_replies.cells_begun.Goals as goal

pub loop-reply-preserved : goal.loop-reply-preserved
loop-reply-preserved c =
    let before = c.loop-reply.invariant.0 in
    let few = c.loop-reply.invariant.1 in
    let low = c.loop-reply-test.true in
    elim c.match-reply.branch [
      | in-Hit w ↦
          let stays = w.cells-is in (
            begun_next c.args.replies.now c.loop-reply.reply-index c.loop-reply.cells c.match-reply.cells (Hit 0) (Hit w.in-Hit.field-0) low before w.in-Hit.is
                (omega arith),
            omega arith,
          )
      | in-Fresh w ↦
          let more = w.cells-is in (
            begun_next c.args.replies.now c.loop-reply.reply-index c.loop-reply.cells c.match-reply.cells (Hit 0) (Fresh w.in-Fresh.cell w.in-Fresh.batch) low
                before w.in-Fresh.is (omega arith),
            omega arith,
          )
    ]
