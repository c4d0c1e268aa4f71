use Rattle.std.proofs.Common.{◌∙◌, ◌<◌, ap, length, get_or, arith}
use Rattle.dl_history.specs.Entries.{cell_of_load, ending_known}
use Rattle.dl_loader.specs.Pass.{Ticket, with_saw}
use Rattle.dl_haxl.proofs.TicketReads.{read_next, shown_ending}
use Rattle.dl_haxl.proofs.evaluator.read_each.Goals as goal

pub loop-ticket-preserved : goal.loop-ticket-preserved
loop-ticket-preserved g c =
    let reading = c.loop-ticket.invariant in
    let i = c.loop-ticket.ticket-index in
    let ts = c.loop-ticket.tickets in
    let item = c.ticket-item.result in
    let lt : i < length ts = omega (arith, c.loop-ticket-test.true, c.loop-ticket.auto.tickets) in
    let saw = c.in_ok-wait.ensures.saw in
    let shown = shown_ending c.wait.new.ticket.known c.in_ok-wait.ensures.shown in
    let now = c.loop-ticket.pass.trace in
    let t : Ticket = get_or ts i item in
    let is = saw.2 ∙ ap (λ o. with_saw now t.number (cell_of_load t.reply) (ending_known o) saw.0) shown.1 in (
      reading.0,
      read_next reading.0 i c.args.pass.now.trace now c.wait.new.pass.trace c.args.tickets.now ts item c.wait.new.ticket shown.0 reading.1 lt
          c.in_ok-wait.ensures.number c.in_ok-wait.ensures.reply shown.1 saw.0 saw.1 is,
    )
