-- Whether the send of a mark succeeds or not, the seat's jobs are the same.
use Rattle.std.proofs.Common.{◌≡◌, ◌∙◌, length, ap, sym}
use Rattle.crossbeam_channel.specs.Claims.{view}
use Rattle.dl_workers.specs.declared.rule.Item.TheVariants.{End}
use Rattle.dl_workers.proofs.SeatSteps.{after_mark}
use Rattle.dl_workers.proofs.queue.JobQueue.mark.Goals as goal

pub invariant_of-sender : goal.invariant_of-sender
invariant_of-sender g c =
    let old = view c.args.sender.now.pass in
    let new = view c.put.new.pass in
    let same = after_mark (λ back. back ≡ End) old new c.put.result c.put.ensures.put in
    record {
      one_seat = same.seats ∙ c.args.sender.now.one_seat;
      counted = c.args.sender.now.counted ∙ ap length (sym same.sent);
      none_taken = same.taken ∙ c.args.sender.now.none_taken;
    }

pub returns-clause-same : goal.returns-clause-same
returns-clause-same g c =
    (after_mark (λ back. back ≡ End) (view c.args.sender.now.pass) (view c.put.new.pass) c.put.result c.put.ensures.put).sent
