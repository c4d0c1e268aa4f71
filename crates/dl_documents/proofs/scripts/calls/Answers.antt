use Rattle.std.proofs.Common.{rules, arith, ◌≡◌, ◌∷◌, [], ◌++◌, length, Err, inr, ap, sym, ◌∙◌, append_assoc}
use Rattle.std.proofs.lemmas.Result.{IfOk-from_err}
use Rattle.std.specs.Vec.Iter.{into_iter_items}
use Rattle.dl_documents.proofs.Readings.{SpellCalls, calls_more, calls_stop}
use Rattle.dl_documents.proofs.ListSpelling.{all_yielded}
use Rattle.dl_documents.specs.declared.fault.PlanFault.TheVariants.{BadCall}
use Rattle.dl_documents.proofs.scripts.calls.Goals as goal

pub returns-in_err-call-2-clause-err : goal.returns-in_err-call-2-clause-err
returns-in_err-call-2-clause-err c =
    let l = c.loop-item in
    let rest = into_iter_items c.next.new.self in
    let is : l.yielded ++ c.in-Some.item ∷ rest ≡ c.args.items.items = rw (← c.in-Some.ensures.steps.0) l.invariant.order in
    let bad : c.from_residual-in_err-call-2.result ≡ Err (BadCall c.len-in-loop-item.result) = search rules in
    rw bad (inr (calls_stop l.yielded c.in-Some.item rest c.args.items.items l.calls.items c.len-in-loop-item.result is (search rules) l.invariant.so_far (search rules)))

pub loop-item-preserved : goal.loop-item-preserved
loop-item-preserved c =
    let l = c.loop-item in
    let steps : into_iter_items l.item-iterator ≡ c.in-Some.item ∷ into_iter_items c.next.new.self = c.in-Some.ensures.steps.0 in
    let pushed : c.push.new.self.items ≡ l.calls.items ++ c.in_ok-call-2.call ∷ [] = search rules in
    record {
      order = append_assoc l.yielded (c.in-Some.item ∷ []) _ ∙ rw (← steps) l.invariant.order;
      so_far = rw pushed (calls_more l.yielded c.in-Some.item l.calls.items c.in_ok-call-2.call l.invariant.so_far (search rules));
      count = (
          let was = l.invariant.count in
          let gone = c.in-Some.ensures.steps.1 in
          let short = ap length steps in
          omega arith);
    }

pub returns-in_err-call-clause-ok : goal.returns-in_err-call-clause-ok
returns-in_err-call-clause-ok c = IfOk-from_err _ _ c.from_residual-in_err-call.ensures.0

pub returns-in_err-call-2-clause-ok : goal.returns-in_err-call-2-clause-ok
returns-in_err-call-2-clause-ok c = IfOk-from_err _ _ c.from_residual-in_err-call-2.ensures.0

pub returns-in_err-push-clause-ok : goal.returns-in_err-push-clause-ok
returns-in_err-push-clause-ok c = IfOk-from_err _ _ c.from_residual-in_err-push.ensures.0

pub returns-clause-ok : goal.returns-clause-ok
returns-clause-ok c =
    let l = c.loop-item in
    let all = all_yielded l.yielded (into_iter_items l.item-iterator) c.args.items.items l.invariant.order (sym l.invariant.count ∙ c.in-None.ensures.steps.0) in
    let read : SpellCalls c.args.items.items l.calls.items = rw all at l.invariant.so_far in
    record { trees = read.trees; calls = read.all }
