use Rattle.std.proofs.Common.{◌∙◌, ap, length, arith}
use Rattle.dl_history.specs.Journal.{refusals}
use Rattle.dl_loader.proofs.LoadCells.{loads_answered}
use Rattle.dl_loader.proofs.NextEvent.{event, gained}
use Rattle.dl_loader.proofs.BookAfterEvent.{next_begun, next_can, next_cells, next_few, next_fits, next_in, next_kept, refusals_waiting}
use Rattle.dl_loader.proofs.book.Book.record.Goals as goal

pub begun_in-cells-requires : goal.begun_in-cells-requires
begun_in-cells-requires g c =
    let next = next_in c.args.pass.now.trace c.self.view_is c.in_ok-prepared.ensures.prepared c.self.invariant c.in_ok-admit.ensures.ok
    c.caller-caller.ensures.caller c.caller-caller.ensures.below c.in_ok-prepared.ensures.call c.next_place-at.ensures c.requires.answers in
    next_begun next

pub add_event-requires-clause-cells_room : goal.add_event-requires-clause-cells_room
add_event-requires-clause-cells_room g c =
    let next = next_in c.args.pass.now.trace c.self.view_is c.in_ok-prepared.ensures.prepared c.self.invariant c.in_ok-admit.ensures.ok
    c.caller-caller.ensures.caller c.caller-caller.ensures.below c.in_ok-prepared.ensures.call c.next_place-at.ensures c.requires.answers in
    rw c.begun_in-cells.ensures (next_fits next)

pub add_tickets-requires-clause-answered : goal.add_tickets-requires-clause-answered
add_tickets-requires-clause-answered g c =
    loads_answered c.reserve.new.self.trace (length c.self.inside.journal.history)
    (event c.caller-caller.result c.in_ok-prepared.prepared.call c.in_ok-prepared.prepared.reply)
    c.in_ok-add_event.ensures.recorded.trace (rw c.in_ok-prepared.ensures.reply c.loads-loads.ensures)

pub give-refused-requires-clause-fits : goal.give-refused-requires-clause-fits
give-refused-requires-clause-fits g c =
    let next = next_in c.args.pass.now.trace c.self.view_is c.in_ok-prepared.ensures.prepared c.self.invariant c.in_ok-admit.ensures.ok
    c.caller-caller.ensures.caller c.caller-caller.ensures.below c.in_ok-prepared.ensures.call c.next_place-at.ensures c.requires.answers in
    let recorded = rw c.begun_in-cells.ensures at c.in_ok-add_event.ensures.recorded in
    next_cells next (gained recorded)

pub give-refused-requires-clause-can : goal.give-refused-requires-clause-can
give-refused-requires-clause-can g c =
    let next = next_in c.args.pass.now.trace c.self.view_is c.in_ok-prepared.ensures.prepared c.self.invariant c.in_ok-admit.ensures.ok
    c.caller-caller.ensures.caller c.caller-caller.ensures.below c.in_ok-prepared.ensures.call c.next_place-at.ensures c.requires.answers in
    let recorded = rw c.begun_in-cells.ensures at c.in_ok-add_event.ensures.recorded in
    next_can next (gained recorded)

pub settled-requires-clause-few : goal.settled-requires-clause-few
settled-requires-clause-few g c =
    let next = next_in c.args.pass.now.trace c.self.view_is c.in_ok-prepared.ensures.prepared c.self.invariant c.in_ok-admit.ensures.ok
    c.caller-caller.ensures.caller c.caller-caller.ensures.below c.in_ok-prepared.ensures.call c.next_place-at.ensures c.requires.answers in
    let few = next_few next in
    let count = c.count-ended.ensures in
    omega arith

pub invariant_of-self-2 : goal.invariant_of-self-2
invariant_of-self-2 g c =
    let next = next_in c.args.pass.now.trace c.self.view_is c.in_ok-prepared.ensures.prepared c.self.invariant c.in_ok-admit.ensures.ok
    c.caller-caller.ensures.caller c.caller-caller.ensures.below c.in_ok-prepared.ensures.call c.next_place-at.ensures c.requires.answers in
    let recorded = rw c.begun_in-cells.ensures at c.in_ok-add_event.ensures.recorded in
    let step = rw (c.prepare.ensures.same, ← c.in_ok-prepared.ensures.call) at c.show.ensures in
    next_kept next (record { history = c.give-refused.ensures.history ∙ recorded.history; cells = recorded.cells }) c.give-refused.ensures.given step

pub returns-clause-refused : goal.returns-clause-refused
returns-clause-refused g c =
    let before = refusals_waiting c.self.inside.journal.cells c.begun_in-cells.result c.in_ok-add_event.ensures.recorded.cells in
    let seen = ap (λ b. refusals b.cells) c.self.view_is in
    let gave = c.give-refused.ensures.refused in
    let told = c.settled.ensures.refused in
    omega arith
