use Rattle.std.proofs.Common.{◌≡◌, ◌∙◌, ◌+◌, ◌-◌, ◌≤◌, length, ap, get_or, refl}
use Rattle.std.specs.Vec.{vec_capacity}
use Rattle.dl_desk.specs.declared.reply.LoadReply.TheVariants.{Hit}
use Rattle.dl_loader.proofs.NewTickets.{tickets_more}
use Rattle.dl_loader.proofs.book.Book.make_tickets.Goals as goal

pub loop-reply-preserved : goal.loop-reply-preserved
loop-reply-preserved g c =
    let first = c.tickets.result - length c.args.replies.now in
    let reply = get_or c.args.replies.now c.loop-reply.reply-index (Hit 0) in
    let number : c.ticket.result.number ≡ first + length c.loop-reply.tickets.items =
    c.ticket.ensures.number ∙ ap (λ n. first + n) (c.len.ensures ∙ c.loop-reply.tickets.ok.0) in
    let are = tickets_more first c.loop-reply.reply-index c.args.replies.now (Hit 0) reply c.loop-reply.tickets.items c.push_reserved.new.self.items
    c.ticket.result c.loop-reply-test.true refl c.loop-reply.invariant.0 c.push_reserved.ensures.items number c.ticket.ensures.reply in
    let room : length c.args.replies.now ≤ vec_capacity c.push_reserved.new.self = rw c.push_reserved.ensures.capacity c.loop-reply.invariant.1 in
    (are, room)
