use Rattle.std.proofs.Common.{◌≡◌, ap, length, arith, rules}
use Rattle.std.specs.Vec.{vec_len}
use Rattle.dl_history.proofs.PassLemmas.{pass_grown}
use Rattle.dl_history.proofs.pass.Pass.grow.Goals as goal

pub invariant_of-self-in_err-reserve-2 : goal.invariant_of-self-in_err-reserve-2
invariant_of-self-in_err-reserve-2 g c =
    let entries = c.self.invariant.entries_fit in
    let tickets = c.self.invariant.tickets_fit in
    let room = c.reserve.ensures.capacity in
    let ticket_room = c.reserve-2.ensures.capacity in
    pass_grown c.self.invariant c.reserve.ensures.items c.reserve-2.ensures.items (omega arith) (omega arith)

pub invariant_of-self-2 : goal.invariant_of-self-2
invariant_of-self-2 g c =
    let entries = c.self.invariant.entries_fit in
    let tickets = c.self.invariant.tickets_fit in
    let room = c.reserve.ensures.capacity in
    let ticket_room = c.reserve-2.ensures.capacity in
    let spare = c.min-self-inside.ensures in
    let capacity = c.capacity.ensures in
    let len = c.len.ensures in
    let ticket_capacity = c.capacity-2.ensures in
    let ticket_len = c.len-2.ensures in
    let as_long : vec_len c.reserve.new.self ≡ length c.reserve.new.self.items = search rules in
    let tickets_as_long : vec_len c.reserve-2.new.self ≡ length c.reserve-2.new.self.items = search rules in
    let same = ap length c.reserve.ensures.items in
    let same_tickets = ap length c.reserve-2.ensures.items in
    pass_grown c.self.invariant c.reserve.ensures.items c.reserve-2.ensures.items (omega arith) (omega arith)
