use Rattle.std.proofs.Common.{◌≡◌, ◌∙◌, ap, sym, subst, refl, ◌<◌, length, map, set, arith, List, Option, Some, IfSome, slice_get}
use Rattle.std.proofs.lemmas.List.{length-map, map-set}
use Rattle.dl_history.specs.Entries.{cell_of_load, ending_known}
use Rattle.dl_history.specs.Pass.{Trace}
use Rattle.dl_loader.specs.SerialLoader.{HasSeen, Serial, book_if, serial}
use Rattle.dl_loader.proofs.SerialLemmas.{gave_at, number_low, part_at, saw_caller, serial_set}
use Rattle.dl_loader.proofs.serial_loader.SerialLoader.saw.Goals as goal

pub ticket_cell-cell-requires : goal.ticket_cell-cell-requires
ticket_cell-cell-requires g c =
    let s = c.self.inside in
    let told = ap (λ (x : Serial). x.traces) c.self.view_is in
    let shown = ap length told in
    let passes = length-map s.passes.items (λ p. p.trace) in
    let low : c.args.caller < length s.passes.items = omega (arith, c.requires.caller, shown, passes) in
    let at = part_at (λ p. p.trace) s.passes.items c.args.caller c.index.result.now c.index.ensures low in
    let given = subst (λ (ps : List Trace). IfSome (slice_get ps c.args.caller) (λ q. c.args.number < length q.tickets)) (sym told) c.requires.number in
    number_low (map (λ p. p.trace) s.passes.items) c.args.caller c.args.number c.index.result.now.trace at given

pub saw-requires-clause-gave : goal.saw-requires-clause-gave
saw-requires-clause-gave g c =
    let s = c.self.inside in
    let told = ap (λ (x : Serial). x.traces) c.self.view_is in
    let shown = ap length told in
    let passes = length-map s.passes.items (λ p. p.trace) in
    let low : c.args.caller < length s.passes.items = omega (arith, c.requires.caller, shown, passes) in
    let old = c.index_mut.result.now.trace in
    let at = part_at (λ p. p.trace) s.passes.items c.args.caller c.index_mut.result.now c.index_mut.ensures.value low in
    let own = part_at (λ p. p.trace) s.passes.items c.args.caller c.index.result.now c.index.ensures low in
    let both : ◌≡◌ {A = Option Trace} (Some c.index.result.now.trace) (Some old) = sym own ∙ at in
    let same : c.index.result.now.trace ≡ old = cc in
    let given = subst (λ (ps : List Trace). IfSome (slice_get ps c.args.caller) (λ q. c.args.number < length q.tickets)) (sym told) c.requires.number in
    let few = number_low (map (λ p. p.trace) s.passes.items) c.args.caller c.args.number old at given in
    let gave = gave_at old c.args.number c.ticket_cell-cell.result few (rw same at c.ticket_cell-cell.ensures) in
    (gave.0, rw (c.look.ensures.number, c.look.ensures.reply, c.new-ticket.ensures) gave.1)

pub invariant_of-self : goal.invariant_of-self
invariant_of-self g c =
    let s = c.self.inside in
    let shown = ap (λ (x : Serial). length x.traces) c.self.view_is in
    let passes = length-map s.passes.items (λ p. p.trace) in
    let low : c.args.caller < length s.passes.items = omega (arith, c.requires.caller, shown, passes) in
    let old = c.index_mut.result.now.trace in
    let new = c.saw.new.self.trace in
    let at = part_at (λ p. p.trace) s.passes.items c.args.caller c.index_mut.result.now c.index_mut.ensures.value low in
    let saw = c.saw.ensures.saw in
    let ticket = c.look.new.self in
    let caller = ap (λ (p : Trace). p.caller) saw.2 ∙ saw_caller old ticket.number (cell_of_load ticket.reply) (ending_known ticket.known) saw.0 in
    rw (map-set (λ p. p.trace) s.passes.items c.args.caller c.saw.new.self)
    (serial_set c.args.caller old new c.self.invariant c.self.invariant.unstopped at caller)

pub returns-clause-seen : goal.returns-clause-seen
returns-clause-seen g c =
    let s = c.self.inside in
    let shown = ap (λ (x : Serial). length x.traces) c.self.view_is in
    let passes = length-map s.passes.items (λ p. p.trace) in
    let low : c.args.caller < length s.passes.items = omega (arith, c.requires.caller, shown, passes) in
    let at = part_at (λ p. p.trace) s.passes.items c.args.caller c.index_mut.result.now c.index_mut.ensures.value low in
    let saw = c.saw.ensures.saw in
    let ticket = c.look.new.self in
    let number : ticket.number ≡ c.args.number = c.look.ensures.number ∙ ap (λ t. t.number) c.new-ticket.ensures in
    let after = serial (book_if s.stopped s.book) (map (λ p. p.trace) (set s.passes.items c.args.caller c.saw.new.self)) in
    let Seen = λ (x : Serial). HasSeen c.args.caller c.args.number x after in
    subst Seen c.self.view_is (record {
      before = c.index_mut.result.now.trace;
      cell = cell_of_load ticket.reply;
      seen = saw.0;
      ending = ending_known ticket.known;
      of_caller = at;
      gave = rw number at saw.1;
      book_stays = refl;
      others = map-set (λ p. p.trace) s.passes.items c.args.caller c.saw.new.self
          ∙ ap (λ (p : Trace). set (map (λ q. q.trace) s.passes.items) c.args.caller p) (rw number at saw.2);
    })
