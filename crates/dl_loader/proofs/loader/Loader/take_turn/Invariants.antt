use Rattle.std.proofs.Common.{◌≡◌}
use Rattle.std.specs.Prelude.{IfSome, Some}
use Rattle.dl_loader.proofs.loader.Loader.take_turn.Given as goal

abbrev pub invariant-loop : goal.invariant-loop
invariant-loop g l = record {
  can_next : (goal.iterator-loop g).can_next l.iterator';
  is_finite : (goal.iterator-loop g).is_finite l.iterator';
  number : l.ticket.number ≡ l.fn.ticket.number;
  reply : l.ticket.reply ≡ l.fn.ticket.reply;
  kept : IfSome l.fn.ticket.known (λ ending. l.ticket.known ≡ Some ending);
}
