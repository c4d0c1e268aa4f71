use Rattle.std.proofs.Common.{ℕ}
use Rattle.dl_haxl.proofs.TicketReads.{Reading}
use Rattle.dl_haxl.proofs.evaluator.read_each.Given as goal

abbrev pub invariant-loop-ticket : goal.invariant-loop-ticket
invariant-loop-ticket g l = (first : ℕ) × Reading first l.ticket-index l.fn.pass.trace l.pass.trace l.fn.tickets l.tickets
