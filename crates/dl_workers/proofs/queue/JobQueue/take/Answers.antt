-- A job joins what the seat took, and an end mark leaves its jobs the same.
use Rattle.std.proofs.Common.{◌∙◌, ap, sym, length, arith}
use Rattle.crossbeam_channel.specs.Claims.{view}
use Rattle.dl_workers.specs.declared.rule.Traffic.{Traffic}
use Rattle.dl_workers.proofs.SeatSteps.{after_take, after_end, length-push, now_marked, still_marked}
use Rattle.dl_workers.proofs.queue.JobQueue.take.Goals as goal

pub invariant_of-taker : goal.invariant_of-taker
invariant_of-taker g c =
    let is = c.in-Work.ensures.taken in
    let longer = length-push _ _ _ (after_take c.in-Work.job (view c.args.taker.now.pass) (view c.receive.new.pass) is) in
    record {
      one_seat = ap (λ (a : Traffic). a.seats) is ∙ c.args.taker.now.one_seat;
      counted = omega (arith, longer, c.args.taker.now.counted);
      marked = still_marked c.in-Work.job (view c.args.taker.now.pass) (view c.receive.new.pass) c.args.taker.now.ended is c.args.taker.now.marked;
      none_sent = ap (λ (a : Traffic). a.sent) is ∙ c.args.taker.now.none_sent;
    }

pub invariant_of-taker-in-End : goal.invariant_of-taker-in-End
invariant_of-taker-in-End g c =
    let is = c.in-End.ensures.taken in
    let same = after_end (view c.args.taker.now.pass) (view c.receive.new.pass) is in
    record {
      one_seat = ap (λ (a : Traffic). a.seats) is ∙ c.args.taker.now.one_seat;
      counted = c.args.taker.now.counted ∙ ap length (sym same);
      marked = sym (now_marked (view c.args.taker.now.pass) (view c.receive.new.pass) is);
      none_sent = ap (λ (a : Traffic). a.sent) is ∙ c.args.taker.now.none_sent;
    }

pub returns-in-Work-clause-taken : goal.returns-in-Work-clause-taken
returns-in-Work-clause-taken g c =
    after_take c.in-Work.job (view c.args.taker.now.pass) (view c.receive.new.pass) c.in-Work.ensures.taken

pub returns-in-End-clause-taken : goal.returns-in-End-clause-taken
returns-in-End-clause-taken g c =
    after_end (view c.args.taker.now.pass) (view c.receive.new.pass) c.in-End.ensures.taken
