use Rattle.std.proofs.Common.{◌≡◌, ◌≤◌, ◌+◌, length, take}
use Rattle.dl_history.specs.Pass.{with_tickets}
use Rattle.dl_history.proofs.pass.Pass.add_tickets.Given as goal

abbrev pub invariant-loop-reply : goal.invariant-loop-reply
invariant-loop-reply g l = record {
  trace : l.self.trace ≡ with_tickets l.fn.self.trace (take l.reply-index l.replies);
  room : l.fn.self.spare ≤ l.self.spare + l.reply-index;
  few : l.reply-index ≤ length l.replies;
}
