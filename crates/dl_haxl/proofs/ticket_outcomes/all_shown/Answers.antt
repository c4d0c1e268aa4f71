use Rattle.std.proofs.Common.{◌≡◌, ◌<◌, sym, refl, true, length, get_or, None, arith}
use Rattle.std.specs.Prelude.{is_some}
use Rattle.dl_haxl.specs.Pairs.{Later}
use Rattle.dl_haxl.proofs.TicketLooks.{later_self, later_set, set_unshown, shown_more, look_none, look_some}
use Rattle.dl_haxl.proofs.ticket_outcomes.all_shown.Goals as goal

pub loop-ticket-init : goal.loop-ticket-init
loop-ticket-init g c = record { later = later_self c.args.tickets.now; shown = refl }

pub returns-then-is_none-clause-later : goal.returns-then-is_none-clause-later
returns-then-is_none-clause-later g c =
    let lt : c.loop-ticket.ticket-index < length c.loop-ticket.tickets = omega (arith, c.loop-ticket-test.true, c.loop-ticket.auto.tickets) in
    let next : Later (get_or c.loop-ticket.tickets c.loop-ticket.ticket-index c.ticket-item.result) c.look.new.self =
    record { number = c.look.ensures.number; reply = c.look.ensures.reply; known = c.look.ensures.kept } in
    later_set c.args.tickets.now c.loop-ticket.tickets c.loop-ticket.ticket-index c.ticket-item.result c.look.new.self c.loop-ticket.invariant.later lt next

pub returns-then-is_none-clause-all : goal.returns-then-is_none-clause-all
returns-then-is_none-clause-all g c =
    let lt : c.loop-ticket.ticket-index < length c.loop-ticket.tickets = omega (arith, c.loop-ticket-test.true, c.loop-ticket.auto.tickets) in
    let none : c.look.new.self.known ≡ None = look_none c.look.result c.is_none.result _ _ c.is_none.ensures c.if-is_none.true c.look.ensures.none in
    sym (set_unshown c.loop-ticket.tickets c.loop-ticket.ticket-index c.look.new.self lt none)

pub loop-ticket-preserved : goal.loop-ticket-preserved
loop-ticket-preserved g c =
    let lt : c.loop-ticket.ticket-index < length c.loop-ticket.tickets = omega (arith, c.loop-ticket-test.true, c.loop-ticket.auto.tickets) in
    let next : Later (get_or c.loop-ticket.tickets c.loop-ticket.ticket-index c.ticket-item.result) c.look.new.self =
    record { number = c.look.ensures.number; reply = c.look.ensures.reply; known = c.look.ensures.kept } in
    let some : is_some c.look.new.self.known ≡ true = look_some c.look.result c.is_none.result c.look.new.self c.is_none.ensures c.if-is_none.false
    c.look.ensures.shown in
    record {
      later = later_set c.args.tickets.now c.loop-ticket.tickets c.loop-ticket.ticket-index c.ticket-item.result c.look.new.self
          c.loop-ticket.invariant.later lt next;
      shown = shown_more c.loop-ticket.tickets c.loop-ticket.ticket-index c.look.new.self lt c.loop-ticket.invariant.shown some;
    }
