use Rattle.std.proofs.Common.{◌≡◌, ◌∙◌, ◌^◌, ◌<◌, ap, length, refl, arith, rules}
use Rattle.std.specs.Vec.{vec_capacity}
use Rattle.dl_history.specs.Entries.{PlacedEvent}
use Rattle.dl_history.proofs.PassLemmas.{pass_counts, pass_call}
use Rattle.dl_history.proofs.pass.Pass.add_event.Goals as goal

pub overflow_add-self-2 : goal.overflow_add-self-2
overflow_add-self-2 g c =
    let counts = pass_counts c.args.self.now c.self.invariant c.self.view_is c.requires.pass_room in
    let most : vec_capacity c.self.inside.entries < 2 ^ 64 = search rules in
    record { fits = omega arith }

pub invariant_of-self-2 : goal.invariant_of-self-2
invariant_of-self-2 g c =
    let from = c.from.ensures in
    let at = c.at.ensures in
    let small = c.at.type_inv in
    let after = c.requires.after in
    let stored = c.in_ok-stored.ensures.stored in
    let place : c.in_ok-stored.stored.at ≡ length c.args.journal.now.history = ap (λ (t : PlacedEvent). t.at) stored in
    let own : c.in_ok-stored.stored.event.caller ≡ c.args.self.now.trace.caller = ap (λ (t : PlacedEvent). t.event.caller) stored ∙ c.requires.own in
    pass_call {entries =
    c.push_reserved.new.self.items} c.args.self.now c.in_ok-stored.stored c.call.result c.self.invariant c.self.view_is c.requires.pass_room (omega arith)
    own c.push_reserved.ensures.items c.call.ensures (omega arith) (omega arith) refl c.append.ensures.parts c.in_ok-stored.ensures.counted
    c.push_reserved.ensures.capacity refl
