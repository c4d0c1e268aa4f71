use Rattle.std.proofs.Common.{◌≡◌, ◌∙◌, ◌<◌, ◌≤◌, ◌+◌, ◌≢◌, length, get_or, set, take, refl, true, false, is_some, Some, None, ap, sym, subst, arith, rules}
use Rattle.std.specs.Prelude.{IfOk, IsSome, Vec, option_map}
use Rattle.std.specs.declared.alloc.Global.{Global}
use Rattle.std.specs.List.{AllZip, list_all}
use Rattle.std.proofs.lemmas.List.{take_all, drop_all, take_more_set, length-set, get_or-set_other}
use Rattle.std.proofs.lemmas.Result.{IfOk-from_err}
use Rattle.indexmap.specs.IndexSet.{insert_all}
use Rattle.dl_values.specs.Key.{key_eq}
use Rattle.dl_terms.specs.declared.node.Frame.{Frame}
use Rattle.dl_terms.specs.declared.node.Node.{Node}
use Rattle.dl_terms.specs.Tree.{ended}
use Rattle.dl_terms.specs.TermAnswers.{outcome_in, answer, joined, waits, all_wait}
use Rattle.dl_terms.specs.Node.{framed, in_frame, joint_of, joined_tree, node_view, nodes_view, result_of, results_of}
use Rattle.dl_terms.specs.Asked.{known_of, wanted_of}
use Rattle.dl_terms.specs.Reduction.{MeansSame, Reduces}
use Rattle.dl_terms.specs.Inside.Exploration.{Becomes}
use Rattle.dl_terms.proofs.Views.{node_view-Chain, node_view-Done}
use Rattle.dl_terms.proofs.PartAnswers.{all_ended, joins_none, joins_some}
use Rattle.dl_terms.proofs.Frames.{means_framed, settles, still_means, part_waits, part_wants}
use Rattle.dl_terms.proofs.Reductions.{chain_left, parts_reduce, parts_want, nodes_reduce, result_is, zip_next, wanted_next}
use Rattle.dl_terms.proofs.exploration.+exploring.Goals as goal

pub explore_all-loop-place-preserved : goal.explore_all-loop-place-preserved
explore_all-loop-place-preserved t c =
    let p = known_of c.args.asked.now in
    let before = c.args.parts.now.items in
    let now = c.loop-place.parts.items in
    let i = c.loop-place.place in
    let part = c.index_mut.result.now in
    let left = c.explore.new.node in
    let h = c.loop-place.invariant in
    let low : i < length before = omega (arith, c.len-place-end.ensures, c.args.parts.now.ok.0, c.loop-place-test.true) in
    let low_now : i < length now = omega (arith, h.unvisited.0, low) in
    let is : part ≡ get_or before i part = c.index_mut.ensures.value ∙ h.unvisited.1 i part (omega arith) in
    record {
      unvisited = (
        length-set now i left ∙ h.unvisited.0,
        λ k d far. (let other : k ≢ i = omega arith in get_or-set_other now i k left d other)
            ∙ h.unvisited.1 k d (omega arith),
      );
      pairs = c.in_ok-explore.ensures.pairs ∙ h.pairs;
      reduced =
          zip_next before i part low is (λ n m. Reduces p (node_view n) (node_view m)) (take i now) (take (i + 1) (set now i left)) left
          (take_more_set now i left low_now) h.reduced
          (subst (λ ps. Reduces (outcome_in ps) (node_view part) (node_view left)) h.pairs c.in_ok-explore.ensures.reduces);
      wanted = wanted_next before i part low is (λ n. waits p (node_view n)) (λ ns. all_wait p (nodes_view ns)) (λ rest. refl) (wanted_of c.loop-place.asked)
          (wanted_of c.explore.new.asked) _ h.wanted
          (c.in_ok-explore.ensures.wanted ∙ ap (λ ps. insert_all key_eq (wanted_of c.loop-place.asked) (waits (outcome_in ps) (node_view part))) h.pairs);
    }

pub explore_all-returns-clause-reduce : goal.explore_all-returns-clause-reduce
explore_all-returns-clause-reduce t c =
    let p = known_of c.args.asked.now in
    let before = c.args.parts.now.items in
    let after = c.loop-place.parts.items in
    let h = c.loop-place.invariant in
    let long : length before ≤ c.loop-place.place = omega (arith, c.len-place-end.ensures, c.args.parts.now.ok.0, c.loop-place-test.false) in
    nodes_reduce p before after
    (subst (λ xs. AllZip (λ n m. Reduces p (node_view n) (node_view m)) xs after) (take_all c.loop-place.place before long)
    (subst (λ ys. AllZip (λ n m. Reduces p (node_view n) (node_view m)) (take c.loop-place.place before) ys)
    (take_all c.loop-place.place after (subst (λ n. n ≤ c.loop-place.place) (sym h.unvisited.0) long)) h.reduced))

pub explore_all-returns-clause-wanted : goal.explore_all-returns-clause-wanted
explore_all-returns-clause-wanted t c =
    let p = known_of c.args.asked.now in
    let before = c.args.parts.now.items in
    let long : length before ≤ c.loop-place.place = omega (arith, c.len-place-end.ensures, c.args.parts.now.ok.0, c.loop-place-test.false) in
    ap (λ ns. insert_all key_eq (wanted_of c.loop-place.asked) (all_wait p (nodes_view ns))) (sym (drop_all c.loop-place.place before long))
    ∙ c.loop-place.invariant.wanted

pub explore_all-returns-in_err-explore-clause-reduce : goal.explore_all-returns-in_err-explore-clause-reduce
explore_all-returns-in_err-explore-clause-reduce t c = IfOk-from_err _ _ c.from_residual.ensures.0

pub explore_all-returns-in_err-explore-clause-wanted : goal.explore_all-returns-in_err-explore-clause-wanted
explore_all-returns-in_err-explore-clause-wanted t c = IfOk-from_err _ _ c.from_residual.ensures.0

pub climb-loop-answer-init : goal.climb-loop-answer-init
climb-loop-answer-init t c =
    let p = known_of c.args.asked.now in
    let part = node_view c.args.part.now in
    let left = node_view c.explore.new.node in
    let explored = c.in_ok-explore.ensures in
    record {
      pairs = explored.pairs;
      means = means_framed p c.args.frames.now.items part left (record { meaning = explored.reduces.meaning; waiting = explored.reduces.waiting });
      settled = settles p part left explored.reduces;
      wanted = explored.wanted ∙ ap (insert_all key_eq (wanted_of c.args.asked.now)) (sym (explored.reduces.waiting p (λ k o known. known)));
    }

pub climb-loop-answer-preserved : goal.climb-loop-answer-preserved
climb-loop-answer-preserved t c =
    let p = known_of c.args.asked.now in
    let keys = wanted_of c.args.asked.now in
    let whole = framed c.args.frames.now.items (node_view c.args.part.now) in
    let h = c.loop-answer.invariant in
    let part = node_view c.loop-answer.part in
    let a = c.in-Some.answer in
    let f = c.in-Some-pop.frame in
    let next = node_view c.in_ok-next.next in
    let left = node_view c.replace-in-Some.new.dest in
    let went = c.in_ok-next.ensures in
    let is : part ≡ ended a = result_is part a (sym c.in-Some.ensures.answer) in
    let same : left ≡ next = ap node_view c.replace-in-Some.ensures.after in
    let goes : Reduces p (in_frame f (ended a)) next = subst (λ ps. Reduces (outcome_in ps) (in_frame f (ended a)) next) h.pairs went.reduces in
    let none : wanted_of c.loop-answer.asked ≡ keys = h.wanted ∙ ap (λ u. insert_all key_eq keys (waits p u)) is in
    record {
      pairs = went.pairs ∙ h.pairs;
      means = subst (λ u. MeansSame p whole (framed c.pop.new.self.items u)) (sym same)
          (still_means p whole c.loop-answer.frames.items c.pop.new.self.items f part next a c.in-Some-pop.ensures.items is goes h.means);
      settled = subst (λ u. result_of u ≡ answer p u) (sym same) (settles p (in_frame f (ended a)) next goes);
      wanted = went.wanted ∙ (ap (λ ps. insert_all key_eq (wanted_of c.loop-answer.asked) (waits (outcome_in ps) (in_frame f (ended a)))) h.pairs
          ∙ (ap (λ ks. insert_all key_eq ks (waits p (in_frame f (ended a)))) none
          ∙ (ap (insert_all key_eq keys) (sym (goes.waiting p (λ k o known. known))) ∙ ap (λ u. insert_all key_eq keys (waits p u)) (sym same))));
    }

pub climb-returns-clause-reduces : goal.climb-returns-clause-reduces
climb-returns-clause-reduces t c =
    let p = known_of c.args.asked.now in
    let whole = framed c.args.frames.now.items (node_view c.args.part.now) in
    let h = c.loop-answer.invariant in
    let frames = c.loop-answer.frames.items in
    let none : result_of (node_view c.loop-answer.part) ≡ None = sym c.take_answer.ensures.answer ∙ c.in_default.is in
    subst (λ n. Reduces p whole (framed frames (node_view n))) (sym (c.take_answer.ensures.kept c.in_default.is))
    (part_waits p whole frames (node_view c.loop-answer.part) h.means h.settled none)

pub climb-returns-clause-wanted : goal.climb-returns-clause-wanted
climb-returns-clause-wanted t c =
    let p = known_of c.args.asked.now in
    let whole = framed c.args.frames.now.items (node_view c.args.part.now) in
    let h = c.loop-answer.invariant in
    let none : result_of (node_view c.loop-answer.part) ≡ None = sym c.take_answer.ensures.answer ∙ c.in_default.is in
    h.wanted
    ∙ ap (insert_all key_eq (wanted_of c.args.asked.now))
    (sym (part_wants p whole c.loop-answer.frames.items (node_view c.loop-answer.part) h.means h.settled none))

pub explore_inside-returns-in-Chain-clause-becomes : goal.explore_inside-returns-in-Chain-clause-becomes
unfolding Rattle.dl_terms.specs.declared.node.Node.TheViews.out-Node denote.Hole.Carrier.out
explore_inside-returns-in-Chain-clause-becomes t c =
    let b = c.in-Chain in
    let e = c.explore_chain in
    let same : c.deref_mut.result.now ≡ b.part.value = c.deref_mut.ensures.value ∙ ap (λ x. x.value) b.part-is in
    let explored = subst (λ (v : Vec Frame Global). IfOk e.result (Becomes (known_of c.args.asked.now) (framed v.items (node_view c.deref_mut.result.now))
    (framed e.new.frames.items (node_view e.new.part)))) b.frames-is e.ensures.becomes in
    chain_left (known_of c.args.asked.now) e.result c.args.node.now _ b.part.value _ e.new.part b.frames.items e.new.frames.items same explored
    (ap node_view b.is ∙ node_view-Chain b.part b.frames) (rw b.is (node_view-Chain (record b.part { value = e.new.part }) e.new.frames))

pub explore_parts-returns-then-not-have_ended-clause-becomes : goal.explore_parts-returns-then-not-have_ended-clause-becomes
explore_parts-returns-then-not-have_ended-clause-becomes t c =
    let items = c.explore_all.new.parts.items in
    let parts = nodes_view items in
    let j = joint_of c.args.by.now in
    let fails : c.have_ended.result ≡ false = search rules in
    let none : is_some (results_of parts) ≡ false = sym (all_ended items) ∙ (ap (list_all (λ n. is_some (result_of (node_view n)))) (sym c.as_slice.ensures.value)
    ∙ (sym c.have_ended.ensures ∙ fails)) in
    parts_reduce (known_of c.args.asked.now) j (nodes_view c.args.parts.now.items) parts (joined_tree j parts) c.in_ok-explore_all.ensures.reduce
    (joins_none j parts (joined_tree j parts) none refl)

pub explore_parts-answer_all-requires : goal.explore_parts-answer_all-requires
explore_parts-answer_all-requires t c =
    let items = c.explore_all.new.parts.items in
    let holds : c.have_ended.result ≡ true = search rules in
    subst (λ (v : Vec Node Global). IsSome (results_of (nodes_view v.items))) (sym c.replace-parts.ensures.value)
    (sym (all_ended items) ∙ (ap (list_all (λ n. is_some (result_of (node_view n)))) (sym c.as_slice.ensures.value) ∙ (sym c.have_ended.ensures ∙ holds)))

pub explore_parts-returns-clause-becomes : goal.explore_parts-returns-clause-becomes
explore_parts-returns-clause-becomes t c =
    let parts = nodes_view c.explore_all.new.parts.items in
    let j = joint_of c.args.by.now in
    let a = c.in_ok-answer_all.field-0 in
    let together : option_map (joined j) (results_of parts) ≡ Some a =
    ap (λ (v : Vec Node Global). option_map (joined j) (results_of (nodes_view v.items))) (sym c.replace-parts.ensures.value) ∙ c.in_ok-answer_all.ensures in
    parts_reduce (known_of c.args.asked.now) j (nodes_view c.args.parts.now.items) parts _ c.in_ok-explore_all.ensures.reduce
    (joins_some j parts _ a together (node_view-Done a))

pub explore_parts-returns-then-not-have_ended-clause-wanted : goal.explore_parts-returns-then-not-have_ended-clause-wanted
explore_parts-returns-then-not-have_ended-clause-wanted t c =
    c.in_ok-explore_all.ensures.wanted
    ∙ parts_want (known_of c.args.asked.now) (joint_of c.args.by.now) (nodes_view c.args.parts.now.items) (wanted_of c.args.asked.now)

pub explore_parts-returns-clause-wanted : goal.explore_parts-returns-clause-wanted
explore_parts-returns-clause-wanted t c =
    c.in_ok-explore_all.ensures.wanted
    ∙ parts_want (known_of c.args.asked.now) (joint_of c.args.by.now) (nodes_view c.args.parts.now.items) (wanted_of c.args.asked.now)
