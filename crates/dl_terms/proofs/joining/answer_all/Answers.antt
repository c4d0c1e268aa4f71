use Rattle.std.proofs.Common.{◌≡◌, ◌∙◌, ◌++◌, ◌∷◌, [], length, Option, Some, None, ap, sym, subst, arith}
use Rattle.std.specs.Prelude.{IsSome}
use Rattle.std.specs.Option.{option_map}
use Rattle.std.specs.Vec.Iter.{into_iter_items}
use Rattle.std.proofs.lemmas.List.{append-nil, nil_from_length}
use Rattle.dl_terms.specs.declared.answer.Answer.{Answer}
use Rattle.dl_terms.specs.declared.answer.Answer.TheVariants.{Value, Fault}
use Rattle.dl_terms.specs.TermAnswers.{joined}
use Rattle.dl_terms.specs.Node.{joint_of, node_view, nodes_view, result_of, results_of}
use Rattle.dl_terms.proofs.PartAnswers.{values_together, fault_together, ended_in, left_next, values_next}
use Rattle.dl_terms.proofs.joining.answer_all.Goals as goal

pub loop-part-preserved : goal.loop-part-preserved
loop-part-preserved c =
    let h = c.loop-part.invariant in
    let steps = c.in-Some.ensures.steps in
    let is : result_of (node_view c.in-Some.part) ≡ Some (Value c.in-Some-Value.value) =
    sym {A = Option Answer} (rw c.in-Some-Value.field-0-is at c.in-Some-Value.ensures) in
    let fewer : length (into_iter_items c.loop-part.part-iterator) ≡ length (c.in-Some.part ∷ into_iter_items c.next.new.self) = ap length steps.0 in
    record {
      left = left_next c.args.parts.items c.loop-part.yielded (into_iter_items c.loop-part.part-iterator) (into_iter_items c.next.new.self) c.in-Some.part
          h.left steps.0;
      long = omega (arith, steps.1, h.long, fewer);
      values = values_next c.loop-part.yielded c.loop-part.values.items c.push.new.self.items c.in-Some.part c.in-Some-Value.value h.values is
          c.in_ok-push-in-Some-Value.ensures.items;
    }

pub returns-in-Some-Fault : goal.returns-in-Some-Fault
returns-in-Some-Fault c =
    let h = c.loop-part.invariant in
    let rest = into_iter_items c.next.new.self in
    let are : c.args.parts.items ≡ c.loop-part.yielded ++ (c.in-Some.part ∷ rest) = h.left ∙ ap (λ l. c.loop-part.yielded ++ l) c.in-Some.ensures.steps.0 in
    let is : result_of (node_view c.in-Some.part) ≡ Some (Fault c.in-Some-Fault.fault) = sym (rw c.in-Some-Fault.field-0-is at c.in-Some-Fault.ensures) in
    subst (λ ns. option_map (joined (joint_of c.args.by.now)) (results_of (nodes_view ns)) ≡ Some (Fault c.in-Some-Fault.fault)) (sym are)
    (fault_together (joint_of c.args.by.now) c.loop-part.yielded c.loop-part.values.items c.in-Some.part rest c.in-Some-Fault.fault h.values is
    (subst (λ ns. IsSome (results_of (nodes_view ns))) are c.requires))

pub unreachable-requires : goal.unreachable-requires
unreachable-requires c =
    let rest = into_iter_items c.next.new.self in
    let are : c.args.parts.items ≡ c.loop-part.yielded ++ (c.in-Some.part ∷ rest) =
    c.loop-part.invariant.left ∙ ap (λ l. c.loop-part.yielded ++ l) c.in-Some.ensures.steps.0 in
    let ended : IsSome (result_of (node_view c.in-Some.part)) = ended_in c.loop-part.yielded c.in-Some.part rest
    (subst (λ ns. IsSome (results_of (nodes_view ns))) are c.requires) in
    let none : None ≡ result_of (node_view c.in-Some.part) = c.in-None-into_answer.ensures in
    let bad = subst IsSome (sym none) ended in cc

pub returns : goal.returns
returns c =
    let h = c.loop-part.invariant in
    let none : into_iter_items c.loop-part.part-iterator ≡ [] = nil_from_length _ (sym h.long ∙ c.in-None.ensures.steps.0) in
    let are : c.args.parts.items ≡ c.loop-part.yielded = h.left ∙ (ap (λ l. c.loop-part.yielded ++ l) none ∙ append-nil c.loop-part.yielded) in
    ap (λ ns. option_map (joined (joint_of c.args.by.now)) (results_of (nodes_view ns))) are
    ∙ (values_together (joint_of c.args.by.now) c.loop-part.yielded c.loop-part.values.items h.values
    ∙ ap (λ d. Some (Value d)) (sym c.in_ok-join_values.ensures))
