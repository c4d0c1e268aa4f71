-- The pass keeps a seat, so the rule survives as it deals one.
use Rattle.std.proofs.Common.{◌+◌, sym, subst, ap, arith}
use Rattle.crossbeam_channel.specs.Claims.{view, IsSeatAt}
use Rattle.crossbeam_channel.specs.Ends.{sends_on}
use Rattle.dl_workers.specs.Seats.{IsNewSender}
use Rattle.dl_workers.specs.declared.rule.Traffic.{Traffic}
use Rattle.dl_workers.specs.declared.seats.Sender.{Sender}
use Rattle.dl_workers.proofs.NewSeats.{all_more, one_less, one_dealt, new_sender}
use Rattle.dl_workers.proofs.Steps.{deals}
use Rattle.dl_workers.proofs.new_seats.deal_senders.Goals as goal

pub another-pass-requires-clause-rule : goal.another-pass-requires-clause-rule
another-pass-requires-clause-rule c =
    let seats = ap (λ (a : Traffic). a.seats) c.loop.invariant.rest in
    deals _ _ (omega arith)

pub loop-preserved : goal.loop-preserved
loop-preserved c =
    let all = (view c.args.whole.now).all in
    let dealt = one_dealt _ _ _ all c.another-pass.ensures.rule.1 c.loop.invariant.rest in
    record {
      seat = c.another-pass.ensures.channel.0;
      rest = one_less _ _ _ _ all c.another-pass.ensures.rule.0 c.loop.invariant.rest (omega arith);
      dealt = rw c.push_reserved.ensures.len (ap (λ n. n + 1) c.loop.invariant.dealt);
      room = rw c.push_reserved.ensures.capacity c.loop.invariant.room;
      all_seats = all_more (λ (s : Sender). IsSeatAt (sends_on c.args.sends.now) s.pass) _ _ c.new.result c.push_reserved.ensures.items
          c.loop.invariant.all_seats (subst (IsSeatAt (sends_on c.args.sends.now)) (sym c.new.ensures) c.another-pass.ensures.channel.2);
      all_new = all_more (IsNewSender all) _ _ c.new.result c.push_reserved.ensures.items c.loop.invariant.all_new
          (new_sender c.new.result c.another-pass.result _ all c.new.ensures dealt);
    }
