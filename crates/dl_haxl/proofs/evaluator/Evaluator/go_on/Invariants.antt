use Rattle.std.proofs.Common.{◌≡◌, ◌≤◌, true}
use Rattle.dl_history.specs.Entries.{front_of}
use Rattle.dl_loader.specs.Additions.{Grows, KeepsTickets}
use Rattle.dl_terms.specs.Tree.{Tree}
use Rattle.dl_haxl.specs.Pairs.{all_show}
use Rattle.dl_haxl.specs.Run.{IsRunOf}
use Rattle.dl_haxl.specs.RunView.{seen}
use Rattle.dl_haxl.specs.Rounds.{AddsAndSends, Rounds, SentMore}
use Rattle.dl_haxl.proofs.EvaluationLemmas.{with_supplied}
use Rattle.dl_haxl.proofs.evaluator.Evaluator.go_on.Given as goal

abbrev pub invariant-loop : goal.invariant-loop
invariant-loop g l = record {
  can_next : (goal.iterator-loop g).can_next l.iterator';
  is_finite : (goal.iterator-loop g).is_finite l.iterator';
  fits : g.O.Outlet.fits l.self.outlet.now l.seat;
  run : (t : Tree) → IsRunOf t (seen l.fn.run) → IsRunOf t (seen l.run);
  shown : all_show (seen l.run).tickets ≡ true;
  stretch : (t : Tree) → IsRunOf t (seen l.fn.run)
      → AddsAndSends l.fn.pass.trace l.pass.trace (g.O.Outlet.sent_by l.fn.seat) (g.O.Outlet.sent_by l.seat)
      (λ lines sent. Rounds (g.O.Outlet.jobs_end l.fn.pass.trace.caller) l.fn.pass.trace.caller t l.rounds lines (with_supplied (seen l.run)) sent);
  sent : SentMore (g.O.Outlet.sent_by l.fn.seat) (g.O.Outlet.sent_by l.seat);
  older : KeepsTickets l.fn.pass.trace l.pass.trace;
  grows : Grows l.fn.pass.trace l.pass.trace;
  front : l.rounds ≤ front_of l.pass.trace.entries;
}
