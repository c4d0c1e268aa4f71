use Rattle.std.proofs.Common.{◌≡◌, ◌∙◌, ap, refl, false, length, Some, slice_get, rules}
use Rattle.std.proofs.lemmas.Iterator.Adapters.{YieldsList-from_vec}
use Rattle.std.proofs.lemmas.Iterator.Consumers.{YieldsList-turn}
use Rattle.std.proofs.lemmas.Option.{slice_get_read}
use Rattle.dl_loader.specs.Pass.{GaveTicket}
use Rattle.dl_history.proofs.TicketsAfterReads.{cells, gave_again, read_cells, still_gave}
use Rattle.histories.proofs.callers.round.Goals as goal

pub wait-requires : goal.wait-requires
wait-requires g c =
    let tickets = c.in_ok-tickets.tickets.items in
    let ticket = c.in-Some.ticket in
    let i = length c.loop-ticket.yielded in
    let loaded = c.load_many.new.pass.trace in
    let all = YieldsList-from_vec tickets (search rules) (search rules) in
    let turn = YieldsList-turn all c.loop-ticket.yielded _ c.loop-ticket.yielded_by _ c.next.new.self ticket c.in-Some.is c.next.ensures.steps in
    let at : slice_get tickets i ≡ Some ticket = slice_get_read tickets (length tickets) i ticket refl turn.0 turn.1 in
    let gave : GaveTicket loaded ticket false = c.in_ok-tickets.ensures.gave.gave i ticket at in
    let same : cells c.loop-ticket.pass.trace.tickets ≡ cells loaded.tickets =
    c.loop-ticket.invariant.cells ∙ ap cells c.end_all.ensures.tickets in
    record { gave = still_gave loaded c.loop-ticket.pass.trace ticket ticket false gave refl refl same }

pub saw-requires-clause-gave : goal.saw-requires-clause-gave
saw-requires-clause-gave g c =
    gave_again c.loop-ticket.pass.trace c.in-Some.ticket _ c.wait.new.pass.trace c.wait.new.ticket
    c.in_ok-wait.ensures.saw c.in_ok-wait.ensures.number c.in_ok-wait.ensures.reply

pub loop-ticket-preserved : goal.loop-ticket-preserved
loop-ticket-preserved g c = record {
  can_next = tt;
  is_finite = tt;
  cells = read_cells c.wait.new.pass.trace c.wait.new.ticket _ c.saw.new.self.trace c.saw.ensures.saw
      ∙ (read_cells c.loop-ticket.pass.trace c.in-Some.ticket _ c.wait.new.pass.trace c.in_ok-wait.ensures.saw
      ∙ c.loop-ticket.invariant.cells);
}
