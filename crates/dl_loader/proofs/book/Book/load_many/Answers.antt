use Rattle.std.proofs.Common.{◌≡◌, ◌∙◌, ap, sym, length, arith}
use Rattle.std.proofs.lemmas.List.{length-map}
use Rattle.dl_loader.proofs.LoadCells.{loads_long}
use Rattle.dl_loader.proofs.NewTickets.{tickets_last, gave_loads}
use Rattle.dl_loader.proofs.book.Book.load_many.Goals as goal

pub make_tickets-requires-clause-begun : goal.make_tickets-requires-clause-begun
make_tickets-requires-clause-begun g c = rw c.as_slice.ensures c.in_ok-replies.ensures.begun

pub make_tickets-requires-clause-room : goal.make_tickets-requires-clause-room
make_tickets-requires-clause-room g c =
    let was = c.in_ok-replies.ensures.made in
    let many =
    loads_long g.L.LoaderName.service was.0 was.1 c.args.pass.now.trace c.make.new.pass.trace c.args.keys.now c.in_ok-replies.replies was.3 was.5 in
    let shown : length c.as_slice.result.now ≡ length c.in_ok-replies.replies = ap length c.as_slice.ensures in
    let room = c.in_ok-tickets.ensures.capacity in
    omega arith

pub make_tickets-requires-clause-last : goal.make_tickets-requires-clause-last
make_tickets-requires-clause-last g c =
    let was = c.in_ok-replies.ensures.made in
    let last = tickets_last was.0 was.1 c.args.pass.now.trace c.make.new.pass.trace c.args.keys.now c.in_ok-replies.replies was.5 in
    let shown : length c.as_slice.result.now ≡ length c.in_ok-replies.replies = ap length c.as_slice.ensures in
    omega arith

pub returns-clause-made : goal.returns-clause-made
returns-clause-made g c = rw (c.make_tickets.ensures.replies_are, c.as_slice.ensures) c.in_ok-replies.ensures.made

pub returns-clause-gave : goal.returns-clause-gave
returns-clause-gave g c =
    let was = c.in_ok-replies.ensures.made in
    gave_loads was.0 was.1 c.args.pass.now.trace c.make.new.pass.trace c.args.keys.now c.in_ok-replies.replies c.make_tickets.new.tickets.items was.5
    (rw c.as_slice.ensures at c.make_tickets.ensures)

pub returns-clause-each : goal.returns-clause-each
returns-clause-each g c =
    let was = c.in_ok-replies.ensures.made in
    let many =
    loads_long g.L.LoaderName.service was.0 was.1 c.args.pass.now.trace c.make.new.pass.trace c.args.keys.now c.in_ok-replies.replies was.3 was.5 in
    let are = rw c.as_slice.ensures at c.make_tickets.ensures in
    sym (length-map c.make_tickets.new.tickets.items (λ t. t.reply)) ∙ (ap length are.replies_are ∙ many)
