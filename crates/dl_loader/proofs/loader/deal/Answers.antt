use Rattle.std.proofs.Common.{rules, arith}
use Rattle.dl_loader.proofs.FirstTraces.{fresh_next}
use Rattle.std.proofs.lemmas.Result.{IfOk-from_err}
use Rattle.dl_loader.proofs.loader.deal.Goals as goal

pub loop-caller-preserved : goal.loop-caller-preserved
loop-caller-preserved g c =
    let left = c.loop-caller.invariant.parts in
    let parts = c.split_off.ensures.parts_left in
    let amount = c.split_off.ensures.amount_left in
    let none = c.loop-caller.invariant.amount in
    let count = c.loop-caller.invariant.count in
    record {
      parts = omega arith;
      amount = omega arith;
      traces = fresh_next (λ p. p.trace) c.loop-caller.passes.items c.push_reserved.new.self.items c.fresh.result c.loop-caller.caller
          c.push_reserved.ensures.items c.fresh.ensures.trace c.loop-caller.invariant.traces;
      count = search rules;
      room = rw c.push_reserved.ensures.capacity c.loop-caller.invariant.room;
    }

pub returns-in_err-passes : goal.returns-in_err-passes
returns-in_err-passes g c = IfOk-from_err _ _ c.from_residual.ensures.0
