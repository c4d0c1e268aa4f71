use Rattle.std.proofs.Common.{◌≤◌, length, take, vec_capacity}
use Rattle.dl_history.specs.Pass.{AreTickets}
use Rattle.dl_loader.proofs.book.Book.make_tickets.Given as goal

abbrev pub invariant-loop-reply : goal.invariant-loop-reply
invariant-loop-reply g l = AreTickets l.first (take l.reply-index l.replies) l.tickets.items × (length l.replies ≤ vec_capacity l.tickets)
