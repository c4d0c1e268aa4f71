use Rattle.std.proofs.Common.{◌≡◌, ◌∙◌, ◌+◌, [], ap, drop, map, sym, subst, arith, rules}
use Rattle.dl_terms.specs.View.{term_view}
use Rattle.dl_picture.specs.FaultPath.{HasOrigin, HaveOrigins}
use Rattle.dl_picture.specs.TermLoads.{rounds_after}
use Rattle.dl_picture.proofs.FaultRounds.{origins_done, origins_next}
use Rattle.dl_picture.proofs.TermLoads.{passed_more}
use Rattle.dl_picture.proofs.origins.origins_of.Goals as goal

pub loop-term-preserved : goal.loop-term-preserved
loop-term-preserved c =
    let events = c.args.history.now.events in
    let rounds = c.args.rounds.now in
    let passed = c.loop-term.passed in
    let read = c.in_ok-origin.read in
    let term = term_view c.term-item.result in
    let left = map (λ e. e.now) (drop passed rounds) in
    let count = c.loop-term.invariant.count in
    let same : map (λ e. e.now) c.split_at.result.1.now ≡ left = ap (map (λ e. e.now)) c.split_at.ensures.back in
    record {
      within = omega (arith, c.in_ok-origin.ensures.within, c.split_at.ensures.back_len);
      found = origins_next events c.args.terms.now c.loop-term.term-index (HaveOrigins events (map term_view c.args.terms.now) (map (λ e. e.now) rounds)) c.term-item.result
          c.loop-term-test.true c.term-item.is left (map (λ e. e.now) (drop (passed + read) rounds)) c.loop-term.origins.items c.push_reserved.new.self.items c.in_ok-origin.origin
          c.loop-term.invariant.found
          (subst (λ es. HasOrigin events term es c.in_ok-origin.origin) same c.in_ok-origin.ensures.origin)
          (passed_more (λ e. e.now) rounds passed read
          ∙ (sym (ap (drop read) same) ∙ (c.in_ok-origin.ensures.left ∙ ap (λ es. rounds_after events term [] es) same)))
          c.push_reserved.ensures.items;
      count = search rules;
      room = rw c.push_reserved.ensures.capacity c.loop-term.invariant.room;
    }

pub returns : goal.returns
returns c =
    let events = c.args.history.now.events in
    origins_done events c.args.terms.now c.loop-term.term-index (HaveOrigins events (map term_view c.args.terms.now) (map (λ e. e.now) c.args.rounds.now))
    (omega (arith, c.loop-term-test.false)) (map (λ e. e.now) (drop c.loop-term.passed c.args.rounds.now)) c.loop-term.origins.items c.loop-term.invariant.found
