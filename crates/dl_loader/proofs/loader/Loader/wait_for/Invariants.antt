use Rattle.std.proofs.Common.{◌≡◌}
use Rattle.dl_loader.proofs.loader.Loader.wait_for.Given as goal

abbrev pub invariant-loop : goal.invariant-loop
invariant-loop g l = record {
  can_next : (goal.iterator-loop g).can_next l.iterator';
  is_finite : (goal.iterator-loop g).is_finite l.iterator';
  number : l.ticket.number ≡ l.fn.ticket.number;
  reply : l.ticket.reply ≡ l.fn.ticket.reply;
  trace : l.pass.trace ≡ l.fn.pass.trace;
}
