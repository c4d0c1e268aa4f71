use Rattle.std.proofs.Common.{◌≡◌, ◌∙◌, ap, sym, ◌<◌, ◌≤◌, ◌++◌, ◌∷◌, [], length, get_or, true, take, drop, arith}
use Rattle.std.proofs.lemmas.List.{take_all, drop_all}
use Rattle.dl_terms.specs.Asked.{paired, pairs_of, wanted_of}
use Rattle.dl_terms.proofs.AskedKeys.{drop_next}
use Rattle.dl_haxl.specs.Pairs.{Later, all_show, outcomes_shown}
use Rattle.dl_haxl.proofs.TicketLooks.{same_look, look_shows}
use Rattle.dl_haxl.proofs.KeyPairs.{some_left, first_left, learned_next}
use Rattle.dl_haxl.proofs.ticket_outcomes.learn.Goals as goal

pub learn-requires : goal.learn-requires
learn-requires g c =
    let i = c.loop-ticket.ticket-index in
    let wanted = wanted_of c.args.asked.now in
    let lt : i < length wanted = omega (arith, c.loop-ticket-test.true, c.loop-ticket.auto.tickets, c.requires.each) in
    λ none. some_left i wanted lt (sym c.loop-ticket.invariant.wanted ∙ none)

pub returns-in_err-learn-in-Some-clause-same : goal.returns-in_err-learn-in-Some-clause-same
returns-in_err-learn-in-Some-clause-same g c =
    let i = c.loop-ticket.ticket-index in
    let ts = c.loop-ticket.tickets in
    let item = c.ticket-item.result in
    let now = c.look.new.self in
    let lt : i < length ts = omega (arith, c.loop-ticket-test.true, c.loop-ticket.auto.tickets) in
    let all : all_show ts ≡ true = ap all_show c.loop-ticket.invariant.same ∙ c.requires.shown in
    let next : Later (get_or ts i item) now = record { number = c.look.ensures.number; reply = c.look.ensures.reply; known = c.look.ensures.kept } in
    same_look ts i item now all lt next ∙ c.loop-ticket.invariant.same

pub loop-ticket-preserved : goal.loop-ticket-preserved
loop-ticket-preserved g c =
    let i = c.loop-ticket.ticket-index in
    let ts = c.loop-ticket.tickets in
    let item = c.ticket-item.result in
    let now = c.look.new.self in
    let h = c.loop-ticket.invariant in
    let lt : i < length ts = omega (arith, c.loop-ticket-test.true, c.loop-ticket.auto.tickets) in
    let all : all_show ts ≡ true = ap all_show h.same ∙ c.requires.shown in
    let next : Later (get_or ts i item) now = record { number = c.look.ensures.number; reply = c.look.ensures.reply; known = c.look.ensures.kept } in
    let shows = look_shows ts i item now c.in-Some.outcome.now all lt next c.in-Some.ensures.shown in
    let known = ap (λ hs. (get_or hs i item).known) (sym h.same) ∙ shows.1 in
    let wanted = wanted_of c.args.asked.now in
    let before = pairs_of c.args.asked.now in
    let so_far = pairs_of c.loop-ticket.asked in
    let low : i < length wanted = omega (arith, c.loop-ticket-test.true, c.loop-ticket.auto.tickets, c.requires.each) in
    let first = c.in_ok-learn-in-Some.ensures in
    let front : drop i wanted ≡ first.key ∷ wanted_of c.learn.new.self = sym h.wanted ∙ first.wanted in
    record {
      same = same_look ts i item now all lt next ∙ h.same;
      wanted = sym (drop_next i wanted first.key (wanted_of c.learn.new.self) front);
      learned = learned_next wanted c.args.tickets.now c.requires.each c.requires.shown before so_far (pairs_of c.learn.new.self) i first.key item shows.0 low
          (first_left i wanted first.key (wanted_of c.learn.new.self) front) known h.learned
          (first.pairs ∙ ap (λ o. so_far ++ (first.key, o) ∷ []) shows.2);
    }

pub returns-clause-learned : goal.returns-clause-learned
returns-clause-learned g c =
    let i = c.loop-ticket.ticket-index in
    let h = c.loop-ticket.invariant in
    let wanted = wanted_of c.args.asked.now in
    let before = pairs_of c.args.asked.now in
    let long : length c.args.tickets.now ≤ i = omega (arith, c.loop-ticket-test.false, c.loop-ticket.auto.tickets) in
    let all : length wanted ≤ i = omega (arith, c.requires.each) in
    h.learned ∙ (ap (λ ks. before ++ paired ks (outcomes_shown (take i c.args.tickets.now))) (take_all i wanted all)
    ∙ ap (λ ts. before ++ paired wanted (outcomes_shown ts)) (take_all i c.args.tickets.now long))

pub returns-clause-wanted : goal.returns-clause-wanted
returns-clause-wanted g c =
    let i = c.loop-ticket.ticket-index in
    let wanted = wanted_of c.args.asked.now in
    let all : length wanted ≤ i = omega (arith, c.loop-ticket-test.false, c.loop-ticket.auto.tickets, c.requires.each) in
    c.loop-ticket.invariant.wanted ∙ drop_all i wanted all
