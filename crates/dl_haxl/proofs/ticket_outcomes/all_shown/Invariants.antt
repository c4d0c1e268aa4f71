use Rattle.std.proofs.Common.{◌≡◌, true, take}
use Rattle.dl_haxl.specs.Pairs.{AllLater, all_show}
use Rattle.dl_haxl.proofs.ticket_outcomes.all_shown.Given as goal

abbrev pub invariant-loop-ticket : goal.invariant-loop-ticket
invariant-loop-ticket g l = record {
  later : AllLater l.fn.tickets l.tickets;
  shown : all_show (take l.ticket-index l.tickets) ≡ true;
}
