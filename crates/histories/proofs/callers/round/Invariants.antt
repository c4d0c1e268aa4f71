use Rattle.std.proofs.Common.{◌≡◌}
use Rattle.dl_history.proofs.TicketsAfterReads.{cells}
use Rattle.histories.proofs.callers.round.Given as goal

abbrev pub invariant-loop-ticket : goal.invariant-loop-ticket
invariant-loop-ticket g l = record {
  can_next : (goal.iterator-loop-ticket g).can_next l.ticket-iterator;
  is_finite : (goal.iterator-loop-ticket g).is_finite l.ticket-iterator;
  cells : cells l.pass.trace.tickets ≡ cells l.initial.pass.trace.tickets;
}
