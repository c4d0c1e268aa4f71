use Rattle.std.proofs.Common.{◌≡◌, ◌∙◌, ap, sym, subst, true, length, [], ◌++◌, None, rules}
use Rattle.std.proofs.lemmas.List.{with_items_is}
use Rattle.std.specs.Vec.{with_items}
use Rattle.indexmap.specs.IndexSet.{insert_all}
use Rattle.dl_values.specs.Key.{key_eq}
use Rattle.dl_terms.specs.TermAnswers.{outcome_in, waits}
use Rattle.dl_terms.specs.Node.{node_view}
use Rattle.dl_terms.specs.Asked.{pairs_of, wanted_of}
use Rattle.dl_terms.specs.Reduction.{Reduces}
use Rattle.dl_haxl.specs.Pairs.{all_show, outcomes_shown, paired}
use Rattle.dl_haxl.proofs.TicketLooks.{later_long}
use Rattle.dl_haxl.proofs.Exploration.{then_answers, then_pends, then_waiting, not_learning, stage_after}
use Rattle.dl_haxl.proofs.run.TermRun.explore.Goals as goal
use Rattle.dl_haxl.proofs.run.TermRun.explore.Goals.{in-Some, in-None}

pub invariant_of-self-2 : goal.invariant_of-self-2
invariant_of-self-2 g c =
    let v = c.args.self.now.tickets in
    let first : length c.all_shown.new.tickets ≡ v.len = later_long c.as_mut_slice.result.now c.all_shown.new.tickets c.all_shown.ensures.later
    ∙ search rules in
    let shown_items : (with_items v c.all_shown.new.tickets).items ≡ c.all_shown.new.tickets = with_items_is v c.all_shown.new.tickets first in
    let same : c.learn.new.tickets ≡ (with_items v c.all_shown.new.tickets).items = c.in_ok-learn.ensures.same ∙ c.as_mut_slice-2.ensures.value in
    let second : length c.learn.new.tickets ≡ v.len = ap length (same ∙ shown_items) ∙ first in
    let items : (with_items (with_items v c.all_shown.new.tickets) c.learn.new.tickets).items ≡ c.all_shown.new.tickets =
    with_items_is (with_items v c.all_shown.new.tickets) c.learn.new.tickets second ∙ (same ∙ shown_items) in
    let now = (with_items (with_items v c.all_shown.new.tickets) c.learn.new.tickets).items in
    let shown : all_show now ≡ true = ap all_show items ∙ (sym c.all_shown.ensures.all ∙ search rules) in
    let stage : c.match-answer-3.self ≡ stage_after c.take_answer-answer.result =
    elim c.match-answer-3.branch [ in-Some w ↦ w.self-is ∙ ap stage_after (sym w.in-Some.is) | in-None w ↦ w.self-is ∙ ap stage_after (sym w.in-None.is) ] in
    let p = pairs_of c.args.self.now.asked in
    let q = pairs_of c.explore.new.asked in
    let u = node_view c.args.self.now.root in
    let left = node_view c.explore.new.node in
    let after = node_view c.take_answer-answer.new.self in
    let keys = wanted_of c.args.self.now.asked in
    let next = wanted_of c.explore.new.asked in
    let kept_pairs : q ≡ pairs_of c.learn.new.asked = c.in_ok-explore.ensures.pairs in
    let learned : q ≡ p ++ paired keys (outcomes_shown now) = kept_pairs ∙ (c.in_ok-learn.ensures.learned
    ∙ ap (λ ts. p ++ paired keys (outcomes_shown ts)) (c.as_mut_slice-2.ensures.value ∙ (shown_items ∙ sym items))) in
    let reduces : Reduces (outcome_in q) u left = subst (λ ps. Reduces (outcome_in ps) u left) (sym kept_pairs) c.in_ok-explore.ensures.reduces in
    let added : next ≡ insert_all key_eq [] (waits (outcome_in q) u) = c.in_ok-explore.ensures.wanted
    ∙ (ap (λ ks. insert_all key_eq ks (waits (outcome_in (pairs_of c.learn.new.asked)) u)) c.in_ok-learn.ensures.wanted
    ∙ ap (λ ps. insert_all key_eq [] (waits (outcome_in ps) u)) (sym kept_pairs)) in
    let kept : c.take_answer-answer.result ≡ None → after ≡ left = λ none. ap node_view (c.take_answer-answer.ensures.kept none) in
    record {
      supplied = λ learning. absurd (not_learning c.take_answer-answer.result c.match-answer-3.self stage learning);
      waiting = then_waiting p q u left keys next c.args.self.now.tickets.items now shown learned reduces added c.take_answer-answer.result
          c.match-answer-3.self after c.take_answer-answer.ensures.answer kept stage;
    }

pub returns-clause-answer : goal.returns-clause-answer
returns-clause-answer g c =
    let v = c.args.self.now.tickets in
    let first : length c.all_shown.new.tickets ≡ v.len = later_long c.as_mut_slice.result.now c.all_shown.new.tickets c.all_shown.ensures.later
    ∙ search rules in
    let shown_items : (with_items v c.all_shown.new.tickets).items ≡ c.all_shown.new.tickets = with_items_is v c.all_shown.new.tickets first in
    let same : c.learn.new.tickets ≡ (with_items v c.all_shown.new.tickets).items = c.in_ok-learn.ensures.same ∙ c.as_mut_slice-2.ensures.value in
    let second : length c.learn.new.tickets ≡ v.len = ap length (same ∙ shown_items) ∙ first in
    let items : (with_items (with_items v c.all_shown.new.tickets) c.learn.new.tickets).items ≡ c.all_shown.new.tickets =
    with_items_is (with_items v c.all_shown.new.tickets) c.learn.new.tickets second ∙ (same ∙ shown_items) in
    let now = (with_items (with_items v c.all_shown.new.tickets) c.learn.new.tickets).items in
    let shown : all_show now ≡ true = ap all_show items ∙ (sym c.all_shown.ensures.all ∙ search rules) in
    let stage : c.match-answer-3.self ≡ stage_after c.take_answer-answer.result =
    elim c.match-answer-3.branch [ in-Some w ↦ w.self-is ∙ ap stage_after (sym w.in-Some.is) | in-None w ↦ w.self-is ∙ ap stage_after (sym w.in-None.is) ] in
    let p = pairs_of c.args.self.now.asked in
    let q = pairs_of c.explore.new.asked in
    let u = node_view c.args.self.now.root in
    let left = node_view c.explore.new.node in
    let after = node_view c.take_answer-answer.new.self in
    let keys = wanted_of c.args.self.now.asked in
    let next = wanted_of c.explore.new.asked in
    let kept_pairs : q ≡ pairs_of c.learn.new.asked = c.in_ok-explore.ensures.pairs in
    let learned : q ≡ p ++ paired keys (outcomes_shown now) = kept_pairs ∙ (c.in_ok-learn.ensures.learned
    ∙ ap (λ ts. p ++ paired keys (outcomes_shown ts)) (c.as_mut_slice-2.ensures.value ∙ (shown_items ∙ sym items))) in
    let reduces : Reduces (outcome_in q) u left = subst (λ ps. Reduces (outcome_in ps) u left) (sym kept_pairs) c.in_ok-explore.ensures.reduces in
    let added : next ≡ insert_all key_eq [] (waits (outcome_in q) u) = c.in_ok-explore.ensures.wanted
    ∙ (ap (λ ks. insert_all key_eq ks (waits (outcome_in (pairs_of c.learn.new.asked)) u)) c.in_ok-learn.ensures.wanted
    ∙ ap (λ ps. insert_all key_eq [] (waits (outcome_in ps) u)) (sym kept_pairs)) in
    let kept : c.take_answer-answer.result ≡ None → after ≡ left = λ none. ap node_view (c.take_answer-answer.ensures.kept none) in
    then_answers p q u left keys next c.args.self.now.tickets.items now shown learned reduces c.args.self.now.stage c.requires.learning
    c.take_answer-answer.result c.match-answer-3.self after c.take_answer-answer.ensures.answer

pub returns-clause-waits : goal.returns-clause-waits
returns-clause-waits g c =
    let v = c.args.self.now.tickets in
    let first : length c.all_shown.new.tickets ≡ v.len = later_long c.as_mut_slice.result.now c.all_shown.new.tickets c.all_shown.ensures.later
    ∙ search rules in
    let shown_items : (with_items v c.all_shown.new.tickets).items ≡ c.all_shown.new.tickets = with_items_is v c.all_shown.new.tickets first in
    let same : c.learn.new.tickets ≡ (with_items v c.all_shown.new.tickets).items = c.in_ok-learn.ensures.same ∙ c.as_mut_slice-2.ensures.value in
    let second : length c.learn.new.tickets ≡ v.len = ap length (same ∙ shown_items) ∙ first in
    let items : (with_items (with_items v c.all_shown.new.tickets) c.learn.new.tickets).items ≡ c.all_shown.new.tickets =
    with_items_is (with_items v c.all_shown.new.tickets) c.learn.new.tickets second ∙ (same ∙ shown_items) in
    let now = (with_items (with_items v c.all_shown.new.tickets) c.learn.new.tickets).items in
    let shown : all_show now ≡ true = ap all_show items ∙ (sym c.all_shown.ensures.all ∙ search rules) in
    let stage : c.match-answer-3.self ≡ stage_after c.take_answer-answer.result =
    elim c.match-answer-3.branch [ in-Some w ↦ w.self-is ∙ ap stage_after (sym w.in-Some.is) | in-None w ↦ w.self-is ∙ ap stage_after (sym w.in-None.is) ] in
    let p = pairs_of c.args.self.now.asked in
    let q = pairs_of c.explore.new.asked in
    let u = node_view c.args.self.now.root in
    let left = node_view c.explore.new.node in
    let after = node_view c.take_answer-answer.new.self in
    let keys = wanted_of c.args.self.now.asked in
    let next = wanted_of c.explore.new.asked in
    let kept_pairs : q ≡ pairs_of c.learn.new.asked = c.in_ok-explore.ensures.pairs in
    let learned : q ≡ p ++ paired keys (outcomes_shown now) = kept_pairs ∙ (c.in_ok-learn.ensures.learned
    ∙ ap (λ ts. p ++ paired keys (outcomes_shown ts)) (c.as_mut_slice-2.ensures.value ∙ (shown_items ∙ sym items))) in
    let reduces : Reduces (outcome_in q) u left = subst (λ ps. Reduces (outcome_in ps) u left) (sym kept_pairs) c.in_ok-explore.ensures.reduces in
    let added : next ≡ insert_all key_eq [] (waits (outcome_in q) u) = c.in_ok-explore.ensures.wanted
    ∙ (ap (λ ks. insert_all key_eq ks (waits (outcome_in (pairs_of c.learn.new.asked)) u)) c.in_ok-learn.ensures.wanted
    ∙ ap (λ ps. insert_all key_eq [] (waits (outcome_in ps) u)) (sym kept_pairs)) in
    let kept : c.take_answer-answer.result ≡ None → after ≡ left = λ none. ap node_view (c.take_answer-answer.ensures.kept none) in
    then_pends p q u left keys next c.args.self.now.tickets.items now shown learned reduces added c.args.self.now.stage c.requires.learning
    c.take_answer-answer.result c.match-answer-3.self after c.take_answer-answer.ensures.answer kept stage
