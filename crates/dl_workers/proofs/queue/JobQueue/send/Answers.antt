-- At `Ok` the job joins what the seat sent.
use Rattle.std.proofs.Common.{◌∙◌, ap, arith}
use Rattle.crossbeam_channel.specs.Claims.{view}
use Rattle.dl_workers.specs.declared.rule.Traffic.{Traffic}
use Rattle.dl_workers.proofs.SeatSteps.{after_send, length-push}
use Rattle.dl_workers.proofs.queue.JobQueue.send.Goals as goal

pub invariant_of-sender : goal.invariant_of-sender
invariant_of-sender g c =
    let old = view c.args.sender.now.pass in
    let new = view c.put.new.pass in
    let longer = length-push _ _ _ (after_send c.args.job old new c.in-Ok.ensures.put) in
    record {
      one_seat = ap (λ (a : Traffic). a.seats) c.in-Ok.ensures.put ∙ c.args.sender.now.one_seat;
      counted = omega (arith, longer, c.args.sender.now.counted);
      none_taken = ap (λ (a : Traffic). a.taken) c.in-Ok.ensures.put ∙ c.args.sender.now.none_taken;
    }

pub returns-in-Ok-clause-ok : goal.returns-in-Ok-clause-ok
returns-in-Ok-clause-ok g c = after_send c.args.job (view c.args.sender.now.pass) (view c.put.new.pass) c.in-Ok.ensures.put
