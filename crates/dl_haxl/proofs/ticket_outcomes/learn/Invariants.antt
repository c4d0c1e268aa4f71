-- The tickets so far were learned, and the keys behind theirs are wanted.
use Rattle.std.proofs.Common.{◌≡◌, ◌++◌, take, drop}
use Rattle.dl_terms.specs.Asked.{paired, pairs_of, wanted_of}
use Rattle.dl_haxl.specs.Pairs.{outcomes_shown}
use Rattle.dl_haxl.proofs.ticket_outcomes.learn.Given as goal

abbrev pub invariant-loop-ticket : goal.invariant-loop-ticket
invariant-loop-ticket g l = record {
  same : l.tickets ≡ l.fn.tickets;
  wanted : wanted_of l.asked ≡ drop l.ticket-index (wanted_of l.fn.asked);
  learned : pairs_of l.asked
      ≡ pairs_of l.fn.asked ++ paired (take l.ticket-index (wanted_of l.fn.asked)) (outcomes_shown (take l.ticket-index l.fn.tickets));
}
