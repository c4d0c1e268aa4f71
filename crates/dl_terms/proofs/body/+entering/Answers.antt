use Rattle.std.proofs.Common.{◌≡◌, ◌∙◌, ◌+◌, ◌≤◌, Some, ap, sym, subst, refl, arith}
use Rattle.std.specs.Prelude.{IfOk, max}
use Rattle.std.specs.List.{AllZip}
use Rattle.std.specs.Option.{option_map}
use Rattle.std.proofs.lemmas.List.{take_all}
use Rattle.std.proofs.lemmas.Result.{IfOk-from_err}
use Rattle.indexmap.specs.IndexSet.{insert_all}
use Rattle.serde_json.specs.Find.{as_array}
use Rattle.serde_json.specs.View.{items_of}
use Rattle.dl_values.specs.Key.{key_eq}
use Rattle.dl_terms.specs.declared.answer.Answer.TheVariants.{Value, Fault}
use Rattle.dl_terms.specs.declared.answer.EvalFault.TheVariants.{TooMany}
use Rattle.dl_terms.specs.Tree.{ended, over, height_of, height_of_all}
use Rattle.dl_terms.specs.TermAnswers.{listing, outcome_in, copy_waits, copies_wait, waits_at, all_wait_at}
use Rattle.dl_terms.specs.View.{term_view, terms_view}
use Rattle.dl_terms.specs.Node.{in_frame, joined_tree, joint_of, node_view, nodes_view, result_of}
use Rattle.dl_terms.specs.Asked.{known_of, wanted_of}
use Rattle.dl_terms.specs.Reduction.{Reduces}
use Rattle.dl_terms.specs.Inside.Exploration.{StandsAt, AllStandAt, CopiesStand, IsSettled, JoinsOn, frame_waits}
use Rattle.dl_terms.proofs.Views.{node_view-Done}
use Rattle.dl_terms.proofs.TermViews.{term_view-Pick, term_view-Follow, term_view-Each, term_view-Over, term_view-All, term_view-Object, body_high, item_high}
use Rattle.dl_terms.proofs.Reductions.{result_is, zip_next, wanted_next}
use Rattle.dl_terms.proofs.Bodies.{if_ok, on_ok, always_ok, frame_stands, part_wants, stands_settled, parts_stand, terms_stand, copies_stand, over_fault, over_stands}
use Rattle.dl_terms.proofs.Bodies.{over_many, over_few}
use Rattle.dl_terms.proofs.body.+entering.Goals as goal

pub enter_copies-loop-item-preserved : goal.enter_copies-loop-item-preserved
enter_copies-loop-item-preserved t c =
    let p = known_of c.args.asked.now in
    let body = term_view c.args.body.now in
    let items = c.args.items.now in
    let i = c.loop-item.item-index in
    let h = c.loop-item.invariant in
    let item = c.item-item.result in
    let node = c.in_ok-enter.field-0 in
    let entered = c.in_ok-enter.ensures in
    record {
      pairs = entered.pairs ∙ h.pairs;
      stand = zip_next items i item c.loop-item-test.true c.item-item.is (λ d n. StandsAt p (Some d) body (node_view n))
          c.loop-item.copies.items c.push.new.self.items node c.in_ok-push.ensures.items h.stand
          (subst (λ ps. StandsAt (outcome_in ps) (Some item) body (node_view node)) h.pairs entered.stands);
      wanted = wanted_next items i item c.loop-item-test.true c.item-item.is (λ d. waits_at p (Some d) body)
          (λ ds. copy_waits (λ d. waits_at p (Some d) body) (items_of ds)) (λ rest. refl)
          (wanted_of c.loop-item.asked) (wanted_of c.enter.new.asked) _ h.wanted
          (entered.wanted ∙ ap (λ ps. insert_all key_eq (wanted_of c.loop-item.asked) (waits_at (outcome_in ps) (Some item) body)) h.pairs);
    }

pub enter_copies-returns-clause-stand : goal.enter_copies-returns-clause-stand
enter_copies-returns-clause-stand t c =
    let p = known_of c.args.asked.now in
    let body = term_view c.args.body.now in
    let items = c.args.items.now in
    copies_stand p body items c.loop-item.copies.items
    (subst (λ ds. AllZip (λ d n. StandsAt p (Some d) body (node_view n)) ds c.loop-item.copies.items)
    (take_all c.loop-item.item-index items c.loop-item-test.false) c.loop-item.invariant.stand)

pub enter_all-loop-part-preserved : goal.enter_all-loop-part-preserved
enter_all-loop-part-preserved t c =
    let p = known_of c.args.asked.now in
    let at = Some c.args.item.now in
    let parts = c.deref-part-items.result.now in
    let i = c.loop-part.part-index in
    let h = c.loop-part.invariant in
    let part = c.part-item.result in
    let node = c.in_ok-enter.field-0 in
    let entered = c.in_ok-enter.ensures in
    record {
      pairs = entered.pairs ∙ h.pairs;
      stand = zip_next parts i part c.loop-part-test.true c.part-item.is (λ t n. StandsAt p at (term_view t) (node_view n))
          c.loop-part.nodes.items c.push.new.self.items node c.in_ok-push.ensures.items h.stand
          (subst (λ ps. StandsAt (outcome_in ps) at (term_view part) (node_view node)) h.pairs entered.stands);
      wanted = wanted_next parts i part c.loop-part-test.true c.part-item.is (λ t. waits_at p at (term_view t))
          (λ ts. all_wait_at p at (terms_view ts)) (λ rest. refl)
          (wanted_of c.loop-part.asked) (wanted_of c.enter.new.asked) _ h.wanted
          (entered.wanted ∙ ap (λ ps. insert_all key_eq (wanted_of c.loop-part.asked) (waits_at (outcome_in ps) at (term_view part))) h.pairs);
    }

pub enter_all-returns-clause-stand : goal.enter_all-returns-clause-stand
enter_all-returns-clause-stand t c =
    let p = known_of c.args.asked.now in
    let at = Some c.args.item.now in
    let parts = c.deref-part-items.result.now in
    subst (λ ts. AllStandAt p at (terms_view ts) (nodes_view c.loop-part.nodes.items)) c.deref-part-items.ensures.value
    (terms_stand p at parts c.loop-part.nodes.items
    (subst (λ ts. AllZip (λ t n. StandsAt p at (term_view t) (node_view n)) ts c.loop-part.nodes.items)
    (take_all c.loop-part.part-index parts c.loop-part-test.false) c.loop-part.invariant.stand))

pub enter_copies-returns-in_err-copies-clause-stand : goal.enter_copies-returns-in_err-copies-clause-stand
enter_copies-returns-in_err-copies-clause-stand t c = IfOk-from_err _ _ c.from_residual.ensures.0

pub enter_copies-returns-in_err-copies-clause-wanted : goal.enter_copies-returns-in_err-copies-clause-wanted
enter_copies-returns-in_err-copies-clause-wanted t c = IfOk-from_err _ _ c.from_residual.ensures.0

pub enter_copies-returns-in_err-enter-clause-stand : goal.enter_copies-returns-in_err-enter-clause-stand
enter_copies-returns-in_err-enter-clause-stand t c = IfOk-from_err _ _ c.from_residual-in_err-enter.ensures.0

pub enter_copies-returns-in_err-enter-clause-wanted : goal.enter_copies-returns-in_err-enter-clause-wanted
enter_copies-returns-in_err-enter-clause-wanted t c = IfOk-from_err _ _ c.from_residual-in_err-enter.ensures.0

pub enter_copies-returns-in_err-push-clause-stand : goal.enter_copies-returns-in_err-push-clause-stand
enter_copies-returns-in_err-push-clause-stand t c = IfOk-from_err _ _ c.from_residual-in_err-push.ensures.0

pub enter_copies-returns-in_err-push-clause-wanted : goal.enter_copies-returns-in_err-push-clause-wanted
enter_copies-returns-in_err-push-clause-wanted t c = IfOk-from_err _ _ c.from_residual-in_err-push.ensures.0

pub enter_all-returns-in_err-nodes-clause-stand : goal.enter_all-returns-in_err-nodes-clause-stand
enter_all-returns-in_err-nodes-clause-stand t c = IfOk-from_err _ _ c.from_residual.ensures.0

pub enter_all-returns-in_err-nodes-clause-wanted : goal.enter_all-returns-in_err-nodes-clause-wanted
enter_all-returns-in_err-nodes-clause-wanted t c = IfOk-from_err _ _ c.from_residual.ensures.0

pub enter_all-returns-in_err-enter-clause-stand : goal.enter_all-returns-in_err-enter-clause-stand
enter_all-returns-in_err-enter-clause-stand t c = IfOk-from_err _ _ c.from_residual-in_err-enter.ensures.0

pub enter_all-returns-in_err-enter-clause-wanted : goal.enter_all-returns-in_err-enter-clause-wanted
enter_all-returns-in_err-enter-clause-wanted t c = IfOk-from_err _ _ c.from_residual-in_err-enter.ensures.0

pub enter_all-returns-in_err-push-clause-stand : goal.enter_all-returns-in_err-push-clause-stand
enter_all-returns-in_err-push-clause-stand t c = IfOk-from_err _ _ c.from_residual-in_err-push.ensures.0

pub enter_all-returns-in_err-push-clause-wanted : goal.enter_all-returns-in_err-push-clause-wanted
enter_all-returns-in_err-push-clause-wanted t c = IfOk-from_err _ _ c.from_residual-in_err-push.ensures.0

-- ---- what is less high

pub enter-enter_part-requires : goal.enter-enter_part-requires
enter-enter_part-requires t c =
    let part = c.in-Pick.part.value in
    let high : height_of (term_view c.args.term.now) ≡ height_of (term_view part) + 1 = ap height_of (ap term_view c.in-Pick.is ∙ term_view-Pick c.in-Pick.part c.in-Pick.field) in
    let same : height_of (term_view c.deref-in-Pick.result.now) ≡ height_of (term_view part) = ap (λ x. height_of (term_view x)) c.deref-in-Pick.ensures in
    omega (arith, c.decreases)

pub enter-enter_part-requires-in-Follow : goal.enter-enter_part-requires-in-Follow
enter-enter_part-requires-in-Follow t c =
    let part = c.in-Follow.part.value in
    let high : height_of (term_view c.args.term.now) ≡ height_of (term_view part) + 1 = ap height_of (ap term_view c.in-Follow.is ∙ term_view-Follow c.in-Follow.part c.in-Follow.field c.in-Follow.table) in
    let same : height_of (term_view c.deref-in-Follow-2.result.now) ≡ height_of (term_view part) = ap (λ x. height_of (term_view x)) c.deref-in-Follow-2.ensures in
    omega (arith, c.decreases)

pub enter-enter_part-requires-in-Each : goal.enter-enter_part-requires-in-Each
enter-enter_part-requires-in-Each t c =
    let part = c.in-Each.part.value in
    let high : height_of (term_view c.args.term.now) ≡ height_of (term_view part) + 1 = ap height_of (ap term_view c.in-Each.is ∙ term_view-Each c.in-Each.part c.in-Each.field c.in-Each.table) in
    let same : height_of (term_view c.deref-in-Each-2.result.now) ≡ height_of (term_view part) = ap (λ x. height_of (term_view x)) c.deref-in-Each-2.ensures in
    omega (arith, c.decreases)

pub enter-enter_part-requires-in-Over : goal.enter-enter_part-requires-in-Over
enter-enter_part-requires-in-Over t c =
    let part = c.in-Over.part.value in
    let body = c.in-Over.body.value in
    let high : height_of (term_view c.args.term.now) ≡ max (height_of (term_view part)) (height_of (term_view body)) + 1 =
    ap height_of (ap term_view c.in-Over.is ∙ term_view-Over c.in-Over.part c.in-Over.body) in
    let same : height_of (term_view c.deref-in-Over-2.result.now) ≡ height_of (term_view part) =
    ap (λ x. height_of (term_view x)) c.deref-in-Over-2.ensures in
    let copied : height_of (term_view c.in_ok-body-in-Over.body.value) ≡ height_of (term_view body) =
    ap height_of (c.in_ok-body-in-Over.ensures ∙ ap term_view c.deref-in-Over.ensures) in
    omega (arith, c.decreases)

pub enter-enter_parts-requires : goal.enter-enter_parts-requires
enter-enter_parts-requires t c =
    let high : height_of (term_view c.args.term.now) ≡ height_of_all (terms_view c.in-All.parts.items) + 1 =
    ap height_of (ap term_view c.in-All.is ∙ term_view-All c.in-All.parts) in
    omega (arith, c.decreases)

pub enter-enter_parts-requires-in-Object : goal.enter-enter_parts-requires-in-Object
enter-enter_parts-requires-in-Object t c =
    let high : height_of (term_view c.args.term.now) ≡ height_of_all (terms_view c.in-Object.parts.items) + 1 =
    ap height_of (ap term_view c.in-Object.is ∙ term_view-Object c.in-Object.names c.in-Object.parts) in
    omega (arith, c.decreases)

pub enter_all-enter-requires : goal.enter_all-enter-requires
enter_all-enter-requires t c =
    let parts = c.deref-part-items.result.now in
    let low : height_of (term_view c.part-item.result) ≤ height_of_all (terms_view parts) =
    item_high parts c.loop-part.part-index c.part-item.result c.loop-part-test.true c.part-item.is in
    let same : height_of_all (terms_view parts) ≡ height_of_all (terms_view c.args.parts.now.items) =
    ap (λ ts. height_of_all (terms_view ts)) c.deref-part-items.ensures.value in
    omega (arith, c.decreases)

pub go_on-go_over-requires : goal.go_on-go_over-requires
go_on-go_over-requires t c =
    let high : body_high c.args.frame ≡ height_of (term_view c.in-Over.body.value) = ap body_high c.in-Over.is in
    let same : height_of (term_view c.deref.result.now) ≡ height_of (term_view c.in-Over.body.value) =
    ap (λ x. height_of (term_view x)) c.deref.ensures in
    omega (arith, c.decreases)

pub enter_part-go_in-requires : goal.enter_part-go_in-requires
enter_part-go_in-requires t c =
    let e = c.in_ok-part.ensures in
    let part = node_view c.in_ok-part.part in (
      omega (arith, c.decreases),
      subst (λ ps. IsSettled (outcome_in ps) part) (sym e.pairs)
          (stands_settled (known_of c.args.asked.now) (Some c.args.item.now) (term_view c.args.part.now) part e.stands),
    )

-- ---- a part and its frame

pub enter_part-returns-clause-stands : goal.enter_part-returns-clause-stands
enter_part-returns-clause-stands t c =
    let p = known_of c.args.asked.now in
    let at = Some c.args.item.now in
    let f = c.args.frame in
    let term = term_view c.args.part.now in
    let part = node_view c.in_ok-part.part in
    let e = c.in_ok-part.ensures in
    if_ok c.go_in.result (λ n. Reduces (known_of c.enter.new.asked) (in_frame f part) (node_view n)) (λ n. StandsAt p at (in_frame f term) (node_view n))
    (λ n goes. frame_stands p at f term part (node_view n) e.stands (subst (λ ps. Reduces (outcome_in ps) (in_frame f part) (node_view n)) e.pairs goes))
    c.go_in.ensures.reduces

pub enter_part-returns-clause-wanted : goal.enter_part-returns-clause-wanted
enter_part-returns-clause-wanted t c =
    let p = known_of c.args.asked.now in
    let at = Some c.args.item.now in
    let f = c.args.frame in
    let term = term_view c.args.part.now in
    let part = node_view c.in_ok-part.part in
    let e = c.in_ok-part.ensures in
    let ks = wanted_of c.args.asked.now in
    let mid = wanted_of c.enter.new.asked in
    let new = wanted_of c.go_in.new.asked in
    on_ok c.go_in.result (new ≡ insert_all key_eq mid (frame_waits (known_of c.enter.new.asked) f (result_of part)))
    (new ≡ insert_all key_eq ks (waits_at p at (in_frame f term)))
    (λ w. part_wants p at f term part ks mid new e.wanted e.stands.ending
    (w ∙ ap (λ ps. insert_all key_eq mid (frame_waits (outcome_in ps) f (result_of part))) e.pairs)) c.go_in.ensures.wanted

pub go_in-returns-in-Some-clause-reduces : goal.go_in-returns-in-Some-clause-reduces
go_in-returns-in-Some-clause-reduces t c =
    let p = known_of c.args.asked.now in
    let is : node_view c.args.part ≡ ended c.in-Some.answer = result_is (node_view c.args.part) c.in-Some.answer (sym c.in-Some.ensures.answer) in
    subst (λ u. IfOk c.go_on.result (λ n. Reduces p (in_frame c.args.frame u) (node_view n))) (sym is) c.go_on.ensures.reduces

-- ---- parts together

pub enter_parts-returns-clause-stands : goal.enter_parts-returns-clause-stands
enter_parts-returns-clause-stands t c =
    let p = known_of c.args.asked.now in
    let at = Some c.args.item.now in
    let j = joint_of c.args.by in
    let parts = terms_view c.args.parts.now.items in
    let nodes = nodes_view c.in_ok-nodes.nodes.items in
    if_ok c.put_together.result (λ n. JoinsOn j nodes (node_view n)) (λ n. StandsAt p at (joined_tree j parts) (node_view n))
    (λ n on. parts_stand p at j parts nodes (node_view n) c.in_ok-nodes.ensures.stand on) c.put_together.ensures

-- ---- the copies of a body

pub go_over-returns-then-len-gt-MOST_ITEMS-clause-reduces : goal.go_over-returns-then-len-gt-MOST_ITEMS-clause-reduces
go_over-returns-then-len-gt-MOST_ITEMS-clause-reduces t c =
    let found : Some (items_of c.in-Some.items.items) ≡ as_array c.args.value = ap (option_map (λ vs. items_of vs.items)) (sym c.in-Some.is)
    ∙ c.in_ok-into_items.ensures in
    let is = over_many c.args.value c.in-Some.items.items found
    (omega (arith, c.len.ensures, c.in-Some.items.ok.0, c.if-len-gt-MOST_ITEMS.true)) in
    over_fault (known_of c.args.asked.now) (term_view c.args.body.now) c.args.value TooMany _ is (node_view-Done (Fault TooMany))

pub go_over-returns-then-len-gt-MOST_ITEMS-clause-wanted : goal.go_over-returns-then-len-gt-MOST_ITEMS-clause-wanted
go_over-returns-then-len-gt-MOST_ITEMS-clause-wanted t c =
    let found : Some (items_of c.in-Some.items.items) ≡ as_array c.args.value = ap (option_map (λ vs. items_of vs.items)) (sym c.in-Some.is)
    ∙ c.in_ok-into_items.ensures in
    let is = over_many c.args.value c.in-Some.items.items found
    (omega (arith, c.len.ensures, c.in-Some.items.ok.0, c.if-len-gt-MOST_ITEMS.true)) in
    let p = known_of c.args.asked.now in
    let body = term_view c.args.body.now in
    ap (λ x. insert_all key_eq (wanted_of c.args.asked.now) (copies_wait (λ d. waits_at p (Some d) body) x)) (sym is)

pub go_over-returns-in_ok-copies-in-Some-clause-reduces : goal.go_over-returns-in_ok-copies-in-Some-clause-reduces
go_over-returns-in_ok-copies-in-Some-clause-reduces t c =
    let found : Some (items_of c.in-Some.items.items) ≡ as_array c.args.value = ap (option_map (λ vs. items_of vs.items)) (sym c.in-Some.is)
    ∙ c.in_ok-into_items.ensures in
    let p = known_of c.args.asked.now in
    let body = term_view c.args.body.now in
    let items = c.in-Some.items.items in
    let copies = nodes_view c.in_ok-copies-in-Some.copies.items in
    let is = over_few c.args.value items found (omega (arith, c.len.ensures, c.in-Some.items.ok.0, c.if-len-gt-MOST_ITEMS.false)) in
    let stand : CopiesStand p body (items_of items) copies =
    subst (λ ds. CopiesStand p body (items_of ds) copies) c.as_slice.ensures.value c.in_ok-copies-in-Some.ensures.stand in
    if_ok c.put_together.result (λ n. JoinsOn listing copies (node_view n)) (λ n. Reduces p (over (ended (Value c.args.value)) body) (node_view n))
    (λ n on. over_stands p body c.args.value (items_of items) copies (node_view n) is stand on) c.put_together.ensures

pub go_over-returns-in_ok-copies-in-Some-clause-wanted : goal.go_over-returns-in_ok-copies-in-Some-clause-wanted
go_over-returns-in_ok-copies-in-Some-clause-wanted t c =
    let found : Some (items_of c.in-Some.items.items) ≡ as_array c.args.value = ap (option_map (λ vs. items_of vs.items)) (sym c.in-Some.is)
    ∙ c.in_ok-into_items.ensures in
    let p = known_of c.args.asked.now in
    let body = term_view c.args.body.now in
    let items = c.in-Some.items.items in
    let ks = wanted_of c.args.asked.now in
    let is = over_few c.args.value items found (omega (arith, c.len.ensures, c.in-Some.items.ok.0, c.if-len-gt-MOST_ITEMS.false)) in
    always_ok c.put_together.result _
    (c.in_ok-copies-in-Some.ensures.wanted
    ∙ (ap (λ ds. insert_all key_eq ks (copy_waits (λ d. waits_at p (Some d) body) (items_of ds))) c.as_slice.ensures.value
    ∙ ap (λ x. insert_all key_eq ks (copies_wait (λ d. waits_at p (Some d) body) x)) (sym is)))
