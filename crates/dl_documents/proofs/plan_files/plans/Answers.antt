use Rattle.std.proofs.Common.{rules, arith, ◌≡◌, ◌∷◌, [], ◌++◌, length, Err, inl, inr, ap, sym, ◌∙◌, append_assoc}
use Rattle.std.proofs.lemmas.Result.{IfOk-from_err}
use Rattle.std.specs.Vec.Iter.{into_iter_items}
use Rattle.dl_documents.proofs.Readings.{SpellPlans, plans_more, plans_stop}
use Rattle.dl_documents.proofs.ListSpelling.{all_yielded}
use Rattle.dl_documents.proofs.plan_files.plans.Goals as goal

pub returns-in_err-plan-clause-err : goal.returns-in_err-plan-clause-err
returns-in_err-plan-clause-err c =
    let l = c.loop-list in
    let rest = into_iter_items c.next.new.self in
    let is : l.yielded ++ c.in-Some.list ∷ rest ≡ c.args.lists.items = rw (← c.in-Some.ensures.steps.0) l.invariant.order in
    let same : c.from_residual.result ≡ Err c.in_err-plan.field-0.0 = search rules in
    rw same (elim c.in_err-plan.ensures.err [
      | inl memory ↦ inl memory
      | inr bad ↦ inr (plans_stop c.args.forms l.yielded c.in-Some.list rest c.args.lists.items l.plans.items _ _ is (search rules) l.invariant.so_far bad)
    ])

pub loop-list-preserved : goal.loop-list-preserved
loop-list-preserved c =
    let l = c.loop-list in
    let steps : into_iter_items l.list-iterator ≡ c.in-Some.list ∷ into_iter_items c.next.new.self = c.in-Some.ensures.steps.0 in
    let pushed : c.push.new.self.items ≡ l.plans.items ++ c.in_ok-plan.plan ∷ [] = search rules in
    record {
      order = append_assoc l.yielded (c.in-Some.list ∷ []) _ ∙ rw (← steps) l.invariant.order;
      so_far = rw pushed (plans_more c.args.forms l.yielded c.in-Some.list l.plans.items c.in_ok-plan.plan l.invariant.so_far (search rules));
      count = (
          let was = l.invariant.count in
          let gone = c.in-Some.ensures.steps.1 in
          let short = ap length steps in
          omega arith);
    }

pub returns-in_err-plan-clause-ok : goal.returns-in_err-plan-clause-ok
returns-in_err-plan-clause-ok c = IfOk-from_err _ _ c.from_residual.ensures.0

pub returns-in_err-push-clause-ok : goal.returns-in_err-push-clause-ok
returns-in_err-push-clause-ok c = IfOk-from_err _ _ c.from_residual-in_err-push.ensures.0

pub returns-clause-ok : goal.returns-clause-ok
returns-clause-ok c =
    let l = c.loop-list in
    let all = all_yielded l.yielded (into_iter_items l.list-iterator) c.args.lists.items l.invariant.order
    (sym l.invariant.count ∙ c.in-None.ensures.steps.0) in
    let read : SpellPlans c.args.forms c.args.lists.items l.plans.items = rw all at l.invariant.so_far in
    record { trees = read.trees; steps = read.all }
