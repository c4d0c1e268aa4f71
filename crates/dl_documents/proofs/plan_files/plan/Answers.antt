use Rattle.std.proofs.Common.{rules, arith, ◌≡◌, ◌∷◌, [], ◌++◌, length, Err, inr, ap, sym, ◌∙◌, append_assoc}
use Rattle.std.proofs.lemmas.Result.{IfOk-from_err}
use Rattle.std.specs.Vec.Iter.{into_iter_items}
use Rattle.dl_documents.proofs.Readings.{SpellSteps, steps_more, steps_stop}
use Rattle.dl_documents.proofs.ListSpelling.{all_yielded}
use Rattle.dl_documents.specs.declared.fault.PlanFault.TheVariants.{Shape}
use Rattle.dl_documents.proofs.plan_files.plan.Goals as goal

pub returns-in_err-step-2-clause-err : goal.returns-in_err-step-2-clause-err
returns-in_err-step-2-clause-err c =
    let l = c.loop-item in
    let rest = into_iter_items c.next.new.self in
    let is : l.yielded ++ c.in-Some.item ∷ rest ≡ c.args.items.items = rw (← c.in-Some.ensures.steps.0) l.invariant.order in
    let bad : c.from_residual-in_err-step-2.result ≡ Err (Shape c.args.number c.len-in-loop-item.result) = search rules in
    rw bad (inr (steps_stop c.args.forms c.args.number l.yielded c.in-Some.item rest c.args.items.items l.steps.items c.len-in-loop-item.result is (search rules)
    l.invariant.so_far
    (search rules)))

pub loop-item-preserved : goal.loop-item-preserved
loop-item-preserved c =
    let l = c.loop-item in
    let steps : into_iter_items l.item-iterator ≡ c.in-Some.item ∷ into_iter_items c.next.new.self = c.in-Some.ensures.steps.0 in
    let pushed : c.push.new.self.items ≡ l.steps.items ++ c.in_ok-step-2.step ∷ [] = search rules in
    record {
      order = append_assoc l.yielded (c.in-Some.item ∷ []) _ ∙ rw (← steps) l.invariant.order;
      so_far = rw pushed (steps_more c.args.forms l.yielded c.in-Some.item l.steps.items c.in_ok-step-2.step l.invariant.so_far (search rules));
      count = (
          let was = l.invariant.count in
          let gone = c.in-Some.ensures.steps.1 in
          let short = ap length steps in
          omega arith);
    }

pub returns-in_err-step-clause-ok : goal.returns-in_err-step-clause-ok
returns-in_err-step-clause-ok c = IfOk-from_err _ _ c.from_residual-in_err-step.ensures.0

pub returns-in_err-step-2-clause-ok : goal.returns-in_err-step-2-clause-ok
returns-in_err-step-2-clause-ok c = IfOk-from_err _ _ c.from_residual-in_err-step-2.ensures.0

pub returns-in_err-push-clause-ok : goal.returns-in_err-push-clause-ok
returns-in_err-push-clause-ok c = IfOk-from_err _ _ c.from_residual-in_err-push.ensures.0

pub returns-clause-ok : goal.returns-clause-ok
returns-clause-ok c =
    let l = c.loop-item in
    let all = all_yielded l.yielded (into_iter_items l.item-iterator) c.args.items.items l.invariant.order
    (sym l.invariant.count ∙ c.in-None.ensures.steps.0) in
    let read : SpellSteps c.args.forms c.args.items.items l.steps.items = rw all at l.invariant.so_far in
    record { trees = read.trees; steps = read.all }
