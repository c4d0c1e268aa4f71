use Rattle.std.proofs.Common.{◌≡◌, ap, Some, IfSome, List, slice_get, subst}
use Rattle.dl_desk.specs.declared.event.Event.{Event}
use Rattle.dl_history.specs.Journal.{Journal}
use Rattle.dl_history.proofs.JournalLemmas.{event_met, event_unmet}
use Rattle.dl_history.proofs.ListLemmas.{looked_up}
use Rattle.dl_history.proofs.journal.Journal.agree_call.Goals as goal

pub agree-requires : goal.agree-requires
agree-requires g c =
    let there = looked_up c.deref.result.now c.at.result c.in-Some.own.now c.in-Some.ensures.lookup.0 c.in-Some.ensures.lookup.1 in
    let own : slice_get c.self.inside.log.items c.args.stored.now.at ≡ Some c.in-Some.own.now = rw (← c.deref.ensures.value, ← c.at.ensures) there in
    let known = c.self.invariant.known.at c.args.stored.now.at c.in-Some.own.now own in
    known.cell_is

pub returns-in-Some : goal.returns-in-Some
returns-in-Some g c =
    let there = looked_up c.deref.result.now c.at.result c.in-Some.own.now c.in-Some.ensures.lookup.0 c.in-Some.ensures.lookup.1 in
    let met = event_met g.L.LoaderName.cells.log c.self.inside.log.items c.deref.result.now c.at.result c.args.stored.now.at c.in-Some.own.now c.args.stored.now.event
    c.self.invariant.known c.deref.ensures.value c.at.ensures there c.agree.ensures in
    subst (λ (es : List Event). IfSome (slice_get es c.args.stored.now.at) (λ x. x ≡ c.args.stored.now.event))
    (ap (λ (j : Journal). j.history) c.self.view_is) met

pub returns-in_default : goal.returns-in_default
returns-in_default g c =
    let met = event_unmet c.self.inside.log.items c.deref.result.now c.at.result c.args.stored.now.at c.args.stored.now.event
    c.deref.ensures.value c.at.ensures c.in_default.ensures.lookup.0 in
    subst (λ (es : List Event). IfSome (slice_get es c.args.stored.now.at) (λ x. x ≡ c.args.stored.now.event))
    (ap (λ (j : Journal). j.history) c.self.view_is) met
