use Rattle.std.proofs.Common.{◌∙◌, ap, map, refl, arith}
use Rattle.dl_terms.specs.View.{term_view}
use Rattle.dl_picture.specs.Numbers.{round_events}
use Rattle.dl_picture.specs.TermLoads.{loads_from, terms_loads, trees_of_terms}
use Rattle.dl_picture.proofs.PartAnswers.{loads_done}
use Rattle.dl_picture.proofs.TermLoads.{plans_next}
use Rattle.dl_picture.proofs.asked.loads_asked.Goals as goal

pub loop-terms-preserved : goal.loop-terms-preserved
loop-terms-preserved c =
    let events = c.args.history.now.events in
    let caller = c.loop-terms.caller in
    plans_next events c.args.plans.now c.loop-terms.terms-index c.terms-item.result c.loop-terms-test.true c.terms-item.is caller _ c.loop-terms.loads _ _ _
    c.loop-terms.invariant
    (c.in_ok-more.ensures ∙ ap (λ ts. terms_loads events (map term_view ts) (round_events caller events)) c.as_slice.ensures.value)
    c.in_ok-loads.ensures c.in_ok-caller.ensures

pub returns : goal.returns
returns c =
    let events = c.args.history.now.events in
    loads_done c.args.plans.now c.loop-terms.terms-index (omega (arith, c.loop-terms-test.false))
    (λ plans. loads_from events c.loop-terms.caller (trees_of_terms plans)) refl c.loop-terms.loads _ c.loop-terms.invariant
