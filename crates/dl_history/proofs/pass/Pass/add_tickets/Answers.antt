use Rattle.std.proofs.Common.{arith}
use Rattle.dl_desk.specs.declared.reply.LoadReply.TheVariants.{Hit}
use Rattle.dl_history.proofs.Tickets.{ticket_next, ticket_among}
use Rattle.dl_history.proofs.pass.Pass.add_tickets.Goals as goal

pub add_ticket-requires-clause-answered : goal.add_ticket-requires-clause-answered
add_ticket-requires-clause-answered g c =
    rw c.load_cell.ensures
    (ticket_among c.args.self.now.trace c.loop-reply.self.trace c.args.replies.now c.loop-reply.reply-index (Hit 0) c.loop-reply-test.true
    c.loop-reply.invariant.trace c.requires.answered)

pub loop-reply-preserved : goal.loop-reply-preserved
loop-reply-preserved g c =
    let room = c.add_ticket.ensures.room in
    let before = c.loop-reply.invariant.room in
    let low = c.loop-reply-test.true in
    record {
      trace = ticket_next c.args.self.now.trace c.loop-reply.self.trace c.add_ticket.new.self.trace c.args.replies.now c.loop-reply.reply-index
          c.load_cell.result (Hit 0) c.loop-reply-test.true c.loop-reply.invariant.trace c.load_cell.ensures c.add_ticket.ensures.trace;
      room = omega arith;
      few = omega arith;
    }
