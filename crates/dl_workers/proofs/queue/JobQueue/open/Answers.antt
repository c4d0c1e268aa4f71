-- The widened pass stands for all seats, so each seat that is dealt from it knows how many there are.
use Rattle.std.proofs.Common.{◌≡◌, ◌∙◌, ◌+◌, sym, ap, arith}
use Rattle.crossbeam_channel.specs.Claims.{view}
use Rattle.dl_workers.specs.declared.rule.Traffic.{Traffic}
use Rattle.dl_workers.proofs.NewSeats.{is_unused}
use Rattle.dl_workers.proofs.queue.JobQueue.open.Goals as goal

pub deal_senders-requires : goal.deal_senders-requires
deal_senders-requires c =
    let seats = ap (λ (a : Traffic). a.seats) c.widen.ensures.wide in
    record {
      channel = c.widen.ensures.channel;
      enough = omega arith;
      unused = is_unused _ _ _ _ c.widen.ensures.wide seats;
    }

pub deal_takers-requires : goal.deal_takers-requires
deal_takers-requires c =
    let seats = ap (λ (a : Traffic). a.seats) c.widen.ensures.wide in
    record {
      channel = c.deal_senders.ensures.channel;
      some = c.requires.takers.least;
      unused = is_unused _ _ _ _ c.in_ok-sender_seats.ensures.rest (omega arith);
    }

pub returns-clause-seats : goal.returns-clause-seats
returns-clause-seats c =
    let all : (view c.widen.new.whole).all ≡ c.args.senders + c.args.takers = ap (λ (a : Traffic). a.all) c.widen.ensures.wide ∙ omega arith in
    let all' = ap (λ (a : Traffic). a.all) c.in_ok-sender_seats.ensures.rest ∙ all in
    record {
      all_senders = sym c.in_ok-sender_seats.sender_seats.ok.0 ∙ c.in_ok-sender_seats.ensures.count;
      all_takers = sym c.in_ok-taker_seats.taker_seats.ok.0 ∙ c.in_ok-taker_seats.ensures.count;
      senders_of = λ k d h. (c.in_ok-sender_seats.ensures.seats k d h, (c.in_ok-sender_seats.ensures.new k d h).0 ∙ all);
      takers_of = λ k d h. (c.in_ok-taker_seats.ensures.seats k d h, (c.in_ok-taker_seats.ensures.new k d h).0 ∙ all');
    }

pub returns-clause-none_sent : goal.returns-clause-none_sent
returns-clause-none_sent c = λ k d h. (c.in_ok-sender_seats.ensures.new k d h).1

pub returns-clause-none_taken : goal.returns-clause-none_taken
returns-clause-none_taken c = λ k d h. (c.in_ok-taker_seats.ensures.new k d h).1
