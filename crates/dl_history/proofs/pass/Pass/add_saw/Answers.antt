use Rattle.std.proofs.Common.{◌≡◌, length, refl, arith, rules}
use Rattle.std.specs.Vec.{vec_len}
use Rattle.dl_history.proofs.PassLemmas.{some_unseen, saw_fits, gave_within, pass_saw, trace_saw}
use Rattle.dl_history.proofs.pass.Pass.add_saw.Goals as goal

pub overflow_sub-self : goal.overflow_sub-self
overflow_sub-self g c =
    some_unseen c.args.self.now c.self.invariant c.self.view_is c.args.number c.args.seen.cell c.requires

pub index_mut-requires : goal.index_mut-requires
index_mut-requires g c =
    let within = gave_within c.args.self.now c.self.invariant c.self.view_is c.args.number c.args.seen.cell c.requires in
    let len : vec_len c.self.inside.tickets ≡ length c.self.inside.tickets.items = search rules in
    omega arith

pub push_reserved-requires : goal.push_reserved-requires
push_reserved-requires g c =
    let fits = saw_fits c.args.self.now c.self.invariant c.self.view_is c.args.number c.args.seen.cell c.requires in
    let len : vec_len c.self.inside.entries ≡ length c.self.inside.entries.items = search rules in
    omega arith

pub invariant_of-self : goal.invariant_of-self
invariant_of-self g c =
    let at = c.ended_at.ensures in
    let small = c.ended_at.type_inv in
    let from = c.from.ensures in
    let most = c.max-self-inside.ensures in
    pass_saw {entries = c.push_reserved.new.self.items} c.args.self.now c.args.number c.args.seen c.saw.result c.index_mut.result.now c.self.invariant
    c.self.view_is c.requires (omega arith) c.push_reserved.ensures.items c.saw.ensures c.index_mut.ensures.value refl (omega arith) refl
    c.push_reserved.ensures.capacity refl

pub returns : goal.returns
returns g c =
    trace_saw c.args.self.now c.args.number c.args.seen c.saw.result c.index_mut.result.now c.self.invariant c.self.view_is c.requires
    c.push_reserved.ensures.items c.saw.ensures c.index_mut.ensures.value refl
