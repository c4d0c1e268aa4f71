-- The pass that gathered all seats knows what they sent and took, so it learns the balance.
use Rattle.std.proofs.Common.{◌≡◌, ◌∙◌, ◌+◌, ◌-◌, List, ◌∷◌, [], ◌++◌, ap, flat_map, length, length-append, Some, arith}
use Rattle.std.proofs.lemmas.List.Elements.{All-pop}
use Rattle.crossbeam_channel.specs.Claims.{view}
use Rattle.dl_workers.specs.declared.rule.Traffic.{Traffic}
use Rattle.dl_workers.specs.Seats.{IsSenderOf, sent_items, taken_items}
use Rattle.dl_workers.specs.Balance.{Balances}
use Rattle.dl_workers.proofs.Steps.{learns}
use Rattle.dl_workers.proofs.Finish.{finishes, balance_of_counts}
use Rattle.dl_workers.specs.declared.rule.Item.{Item}
use Rattle.dl_workers.proofs.queue.JobQueue.finish.Given.{Over}
use Rattle.dl_workers.proofs.queue.JobQueue.finish.Goals.{After-learn_as}
use Rattle.dl_workers.proofs.queue.JobQueue.finish.Goals as goal

-- the last sender is a seat of the queue, and so are the others
pub gather_senders-requires : goal.gather_senders-requires
gather_senders-requires g c =
    let each = All-pop (IsSenderOf c.args.self) c.args.senders.items c.pop.new.self.items (Some c.in-Some.last) c.in-Some.ensures.items
    c.requires.seats.senders_of in
    let senders = ap length c.in-Some.ensures.items in
    let own = ap (λ (a : Traffic). a.seats) (ap view c.into_pass-whole.ensures) in
    record {
      seat = rw c.into_pass-whole.ensures each.1.0;
      some_seat = omega (arith, own, c.in-Some.last.one_seat);
      few = omega (arith, c.requires.seats.all_senders, c.args.self.few_senders, length-append c.pop.new.self.items (c.in-Some.last ∷ []));
      senders = each.0;
    }

pub gather_takers-taken-requires : goal.gather_takers-taken-requires
gather_takers-taken-requires g c =
    let seats = ap (λ (a : Traffic). a.seats) c.gather_senders.ensures.gathered in
    let own = ap (λ (a : Traffic). a.seats) (ap view c.into_pass-whole.ensures) in
    record {
      seat = c.gather_senders.ensures.seat;
      some_seat = omega (arith, own, c.in-Some.last.one_seat);
      few = omega (arith, c.requires.seats.all_takers, c.args.self.few_takers);
      takers = c.requires.seats.takers_of;
    }

pub learn_as-requires-clause-rule : goal.learn_as-requires-clause-rule
learn_as-requires-clause-rule g c =
    let last = (All-pop (IsSenderOf c.args.self) c.args.senders.items c.pop.new.self.items (Some c.in-Some.last) c.in-Some.ensures.items
    c.requires.seats.senders_of).1 in
    let senders = ap length c.in-Some.ensures.items in
    let seats = ap (λ (a : Traffic). a.seats) c.gather_takers-taken.ensures.gathered in
    let seats' = ap (λ (a : Traffic). a.seats) c.gather_senders.ensures.gathered in
    let all = ap (λ (a : Traffic). a.all) c.gather_takers-taken.ensures.gathered in
    let all' = ap (λ (a : Traffic). a.all) c.gather_senders.ensures.gathered in
    let own = ap (λ (a : Traffic). a.seats) (ap view c.into_pass-whole.ensures) in
    let own' = ap (λ (a : Traffic). a.all) (ap view c.into_pass-whole.ensures) in
    learns _ _ (omega (arith, own, c.in-Some.last.one_seat))
    (omega (
      arith,
      own,
      own',
      c.in-Some.last.one_seat,
      last.1,
      c.requires.seats.all_senders,
      c.requires.seats.all_takers,
      length-append c.pop.new.self.items
          (c.in-Some.last ∷ []),
    ))

-- what the answer will be, said of the senders with the one that was looked at first
balance : (g : Over) (c : After-learn_as g)
    → Balances
    (c.pop.new.self.items ++ c.in-Some.last ∷ [])
    c.args.takers.items
    (record {
      sent = c.from.result + c.gather_senders.result;
      taken = c.gather_takers-taken.result;
      left = c.from.result + c.gather_senders.result - c.gather_takers-taken.result;
    })
balance g c =
    finishes
    c.pop.new.self.items
    c.in-Some.last
    c.args.takers.items
    (view c.gather_takers-taken.new.whole)
    (ap (λ (a : Traffic). a.sent) c.gather_takers-taken.ensures.gathered
    ∙ (ap (λ (a : Traffic). a.sent) c.gather_senders.ensures.gathered
    ∙ ap (λ (a : Traffic). a.sent ++ flat_map sent_items c.pop.new.self.items) (ap view c.into_pass-whole.ensures)))
    (ap (λ (a : Traffic). a.taken) c.gather_takers-taken.ensures.gathered
    ∙ ap (λ (items : List Item). items ++ flat_map taken_items c.args.takers.items)
    (ap (λ (a : Traffic). a.taken) c.gather_senders.ensures.gathered
    ∙ (ap (λ (a : Traffic). a.taken) (ap view c.into_pass-whole.ensures) ∙ c.in-Some.last.none_taken)))
    (c.from.result + c.gather_senders.result)
    c.gather_takers-taken.result
    (omega (arith, c.in-Some.last.counted))
    c.gather_takers-taken.ensures.counted
    c.learn_as.ensures.rule.0
    c.learn_as.ensures.rule.1

-- the sum is that of the answer's numbers
sums : (g : Over) (c : After-learn_as g)
    → c.from.result + c.gather_senders.result ≡ c.gather_takers-taken.result + (c.from.result + c.gather_senders.result - c.gather_takers-taken.result)
sums g c = balance_of_counts (c.pop.new.self.items ++ c.in-Some.last ∷ []) c.args.takers.items _ _ _ (balance g c)

pub overflow_sub-left : goal.overflow_sub-left
overflow_sub-left g c = omega (arith, sums g c)

pub returns-clause-balance : goal.returns-clause-balance
returns-clause-balance g c = rw c.in-Some.ensures.items (balance g (goal.at.returns-clause-balance g c).After-learn_as)

pub returns-clause-sum : goal.returns-clause-sum
returns-clause-sum g c = sums g (goal.at.returns-clause-sum g c).After-learn_as
