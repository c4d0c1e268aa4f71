use Rattle.std.proofs.Common.{◌≡◌, ◌∙◌, ◌+◌, [], ap, drop, map, sym, refl, arith}
use Rattle.dl_terms.specs.View.{term_view}
use Rattle.dl_picture.specs.TermLoads.{loads_in, rounds_after, terms_loads}
use Rattle.dl_picture.proofs.PartAnswers.{loads_done}
use Rattle.dl_picture.proofs.TermLoads.{passed_more, terms_next}
use Rattle.dl_picture.proofs.asked.terms_loads.Goals as goal

pub loop-term-preserved : goal.loop-term-preserved
loop-term-preserved c =
    let events = c.args.history.now.events in
    let rounds = c.args.rounds.now in
    let passed = c.loop-term.passed in
    let read = c.in_ok-more.read in
    let left = map (λ e. e.now) (drop passed rounds) in
    let same : map (λ e. e.now) c.split_at.result.1.now ≡ left = ap (map (λ e. e.now)) c.split_at.ensures.back in
    record {
      within = omega (arith, c.in_ok-more.ensures.within, c.split_at.ensures.back_len);
      counted = terms_next events c.args.terms.now c.loop-term.term-index c.term-item.result c.loop-term-test.true c.term-item.is left
          (map (λ e. e.now) (drop (passed + read) rounds)) c.loop-term.loads _ _ _ c.loop-term.invariant.counted
          (c.in_ok-more.ensures.loads ∙ ap (λ es. loads_in events (term_view c.term-item.result) [] es) same)
          (passed_more (λ e. e.now) rounds passed read
          ∙ (sym (ap (drop read) same) ∙ (c.in_ok-more.ensures.left ∙ ap (λ es. rounds_after events (term_view c.term-item.result) [] es) same)))
          c.in_ok-loads.ensures;
    }

pub returns : goal.returns
returns c =
    let events = c.args.history.now.events in
    loads_done c.args.terms.now c.loop-term.term-index (omega (arith, c.loop-term-test.false))
    (λ terms. terms_loads events (map term_view terms) (map (λ e. e.now) (drop c.loop-term.passed c.args.rounds.now))) refl c.loop-term.loads _
    c.loop-term.invariant.counted
