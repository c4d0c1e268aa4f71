use Rattle.std.proofs.Common.{◌≡◌, ◌∙◌, ap, subst, Bor, List, Some, option_copied, slice_get, arith}
use Rattle.dl_cells.specs.Cells.{Reader}
use Rattle.dl_desk.specs.declared.event.Event.{Event}
use Rattle.dl_history.proofs.JournalLemmas.{event_seen}
use Rattle.dl_history.proofs.ListLemmas.{looked_up}
use Rattle.dl_history.proofs.events.Events.get.Goals as goal

pub overflow_cast-at : goal.overflow_cast-at
overflow_cast-at c =
    let there = looked_up c.deref.result.now c.args.at c.in_ok-reader.reader.now c.in_ok-reader.ensures.lookup.0 c.in_ok-reader.ensures.lookup.1 in
    let own : slice_get c.self.inside.readers.items c.args.at ≡ Some c.in_ok-reader.reader.now = rw (← c.deref.ensures.value) there in
    let known = c.self.invariant.at c.args.at c.in_ok-reader.reader.now own in
    let few = known.few in
    omega arith

pub look-requires-clause-in_row : goal.look-requires-clause-in_row
look-requires-clause-in_row c =
    let there = looked_up c.deref.result.now c.args.at c.in_ok-reader.reader.now c.in_ok-reader.ensures.lookup.0 c.in_ok-reader.ensures.lookup.1 in
    let own : slice_get c.self.inside.readers.items c.args.at ≡ Some c.in_ok-reader.reader.now = rw (← c.deref.ensures.value) there in
    let known = c.self.invariant.at c.args.at c.in_ok-reader.reader.now own in
    known.in_log

pub look-requires-clause-of_cell : goal.look-requires-clause-of_cell
look-requires-clause-of_cell c =
    let there = looked_up c.deref.result.now c.args.at c.in_ok-reader.reader.now c.in_ok-reader.ensures.lookup.0 c.in_ok-reader.ensures.lookup.1 in
    let own : slice_get c.self.inside.readers.items c.args.at ≡ Some c.in_ok-reader.reader.now = rw (← c.deref.ensures.value) there in
    let known = c.self.invariant.at c.args.at c.in_ok-reader.reader.now own in
    ap (λ (r : Reader Event). r.cell) c.again.ensures ∙ known.cell_is

pub returns : goal.returns
returns c =
    let there = looked_up c.deref.result.now c.args.at c.in_ok-reader.reader.now c.in_ok-reader.ensures.lookup.0 c.in_ok-reader.ensures.lookup.1 in
    let own : slice_get c.self.inside.readers.items c.args.at ≡ Some c.again.result = rw (← c.deref.ensures.value, c.again.ensures) there in
    let seen =
    event_seen (λ (e : Bor Event). e.now) c.self.inside.log c.self.inside.readers.items c.args.at c.again.result c.look.result c.look.new.reader.known
    c.self.invariant own c.look.ensures.shown c.look.ensures.empty in
    subst (λ (es : List Event). option_copied c.look.result ≡ slice_get es c.args.at) c.self.view_is seen
