use Rattle.std.proofs.Common.{◌≡◌, ◌∙◌, ◌+◌, ◌≤◌, ap, sym, append_assoc, [], ◌∷◌, ◌++◌, map, arith}
use Rattle.std.specs.Prelude.{Box}
use Rattle.std.specs.declared.alloc.Global.{Global}
use Rattle.std.specs.Vec.Iter.{into_iter_items}
use Rattle.std.proofs.lemmas.List.{map-append}
use Rattle.std.proofs.lemmas.Result.{IfOk-from_err}
use Rattle.dl_terms.specs.declared.node.Frame.{Frame}
use Rattle.dl_terms.specs.declared.term.Term.{Term}
use Rattle.dl_terms.specs.Tree.{height_of, height_of_all}
use Rattle.dl_terms.specs.View.{term_view, terms_view}
use Rattle.dl_terms.specs.Node.{framed, in_frame, node_view}
use Rattle.dl_terms.proofs.TermViews.{term_view-All, term_view-Object, term_view-Pick, term_view-Follow, term_view-Each, term_view-Over, frame_next, framed_high, part_high}
use Rattle.dl_terms.proofs.node.+making.Goals as goal
use Rattle.dl_terms.proofs.node.+making.Goals.{unexplored-in-Pick, unexplored-in-Follow, unexplored-in-Each, unexplored-in-Over}

pub unexplored_all-returns-in_err-nodes : goal.unexplored_all-returns-in_err-nodes
unexplored_all-returns-in_err-nodes t c = IfOk-from_err _ _ c.from_residual.ensures.0

pub unexplored_all-returns-in_err-unexplored : goal.unexplored_all-returns-in_err-unexplored
unexplored_all-returns-in_err-unexplored t c = IfOk-from_err _ _ c.from_residual-in_err-unexplored.ensures.0

pub unexplored_all-returns-in_err-push : goal.unexplored_all-returns-in_err-push
unexplored_all-returns-in_err-push t c = IfOk-from_err _ _ c.from_residual-in_err-push.ensures.0

pub unexplored-loop-term-preserved : goal.unexplored-loop-term-preserved
unexplored-loop-term-preserved t c =
    let taken = c.match-term-2.frame in
    let inner = term_view c.into_inner-term.result in
    let is : in_frame taken.0 (term_view taken.1.value) ≡ term_view c.loop-term.term = elim c.match-term-2.branch [
      | unexplored-in-Pick w ↦
          ap (λ (x : Frame × Box Term Global). in_frame x.0 (term_view x.1.value)) w.frame-is
          ∙ sym (ap term_view w.in-Pick.is ∙ term_view-Pick w.in-Pick.part w.in-Pick.field)
      | unexplored-in-Follow w ↦
          ap (λ (x : Frame × Box Term Global). in_frame x.0 (term_view x.1.value)) w.frame-is
          ∙ sym (ap term_view w.in-Follow.is ∙ term_view-Follow w.in-Follow.part w.in-Follow.field w.in-Follow.table)
      | unexplored-in-Each w ↦
          ap (λ (x : Frame × Box Term Global). in_frame x.0 (term_view x.1.value)) w.frame-is
          ∙ sym (ap term_view w.in-Each.is ∙ term_view-Each w.in-Each.part w.in-Each.field w.in-Each.table)
      | unexplored-in-Over w ↦
          ap (λ (x : Frame × Box Term Global). in_frame x.0 (term_view x.1.value)) w.frame-is
          ∙ sym (ap term_view w.in-Over.is ∙ term_view-Over w.in-Over.part w.in-Over.body)
    ] in
    frame_next c.loop-term.frames.items c.push.new.self.items taken.0 inner (term_view c.args.term) (term_view c.loop-term.term) c.in_ok-push.ensures.items
    (ap (λ x. in_frame taken.0 (term_view x)) c.into_inner-term.ensures ∙ is) c.loop-term.invariant

pub unexplored-unexplored_all-requires : goal.unexplored-unexplored_all-requires
unexplored-unexplored_all-requires t c =
    let parts = terms_view c.in-All.parts.items in
    let now = term_view c.loop-term.term in
    let here : height_of now ≡ height_of_all parts + 1 = ap height_of (ap term_view c.in-All.is ∙ term_view-All c.in-All.parts) in
    let low : height_of now ≤ height_of (framed c.loop-term.frames.items now) = framed_high c.loop-term.frames.items now in
    let high : height_of (framed c.loop-term.frames.items now) ≡ height_of (term_view c.args.term) = ap height_of c.loop-term.invariant in
    omega (arith, c.decreases)

pub unexplored-unexplored_all-requires-in-Object : goal.unexplored-unexplored_all-requires-in-Object
unexplored-unexplored_all-requires-in-Object t c =
    let parts = terms_view c.in-Object.parts.items in
    let now = term_view c.loop-term.term in
    let here : height_of now ≡ height_of_all parts + 1 = ap height_of (ap term_view c.in-Object.is ∙ term_view-Object c.in-Object.names c.in-Object.parts) in
    let low : height_of now ≤ height_of (framed c.loop-term.frames.items now) = framed_high c.loop-term.frames.items now in
    let high : height_of (framed c.loop-term.frames.items now) ≡ height_of (term_view c.args.term) = ap height_of c.loop-term.invariant in
    omega (arith, c.decreases)

pub unexplored_all-unexplored-requires : goal.unexplored_all-unexplored-requires
unexplored_all-unexplored-requires t c =
    let rest = into_iter_items c.next.new.self in
    let are : c.args.parts.items ≡ c.loop-part.yielded ++ (c.in-Some.part ∷ rest) = c.loop-part.invariant.left
    ∙ ap (λ l. c.loop-part.yielded ++ l) c.in-Some.ensures.steps.0 in
    let low : height_of (term_view c.in-Some.part) ≤ height_of_all (terms_view (c.loop-part.yielded ++ (c.in-Some.part ∷ rest))) =
    part_high c.loop-part.yielded c.in-Some.part rest in
    let same : height_of_all (terms_view c.args.parts.items) ≡ height_of_all (terms_view (c.loop-part.yielded ++ (c.in-Some.part ∷ rest))) =
    ap (λ ts. height_of_all (terms_view ts)) are in
    omega (arith, c.decreases)

pub unexplored_all-loop-part-preserved : goal.unexplored_all-loop-part-preserved
unexplored_all-loop-part-preserved t c =
    let h = c.loop-part.invariant in
    let node = c.in_ok-unexplored.field-0 in
    record {
      left = h.left ∙ (ap (λ l. c.loop-part.yielded ++ l) c.in-Some.ensures.steps.0
          ∙ sym (append_assoc c.loop-part.yielded (c.in-Some.part ∷ []) (into_iter_items c.next.new.self)));
      made = ap (map node_view) c.in_ok-push.ensures.items
          ∙ (map-append node_view c.loop-part.nodes.items (node ∷ [])
          ∙ (ap (λ l. l ++ node_view node ∷ []) h.made
          ∙ (ap (λ u. map term_view c.loop-part.yielded ++ u ∷ []) c.in_ok-unexplored.ensures
          ∙ sym (map-append term_view c.loop-part.yielded (c.in-Some.part ∷ [])))));
    }
