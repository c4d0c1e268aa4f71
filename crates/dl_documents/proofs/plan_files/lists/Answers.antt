use Rattle.std.proofs.Common.{rules, arith, ◌≡◌, ◌∷◌, [], ◌++◌, length, Some, None, Err, inr, refl, ap, sym, ◌∙◌, append_assoc}
use Rattle.std.specs.Vec.Iter.{into_iter_items}
use Rattle.serde_json.specs.Find.{as_array}
use Rattle.dl_documents.specs.Inside.Trees.{tree_data, list_data}
use Rattle.dl_documents.proofs.Readings.{SpellLists, lists_more, lists_stop}
use Rattle.dl_documents.proofs.ListSpelling.{all_yielded}
use Rattle.dl_documents.specs.declared.fault.PlanFault.TheVariants.{Top}
use Rattle.dl_documents.proofs.plan_files.lists.Goals as goal

pub returns-in_err-list-clause-err : goal.returns-in_err-list-clause-err
returns-in_err-list-clause-err c =
    let l = c.loop-item in
    let rest = into_iter_items c.next.new.self in
    let is : l.yielded ++ c.in-Some.item ∷ rest ≡ c.args.items.items = rw (← c.in-Some.ensures.steps.0) l.invariant.order in
    let bad : c.from_residual.result ≡ Err Top = search rules in
    let none : None ≡ as_array (tree_data c.in-Some.item) = search rules in
    rw bad (inr (refl, lists_stop l.yielded c.in-Some.item rest c.args.items.items is none))

pub loop-item-preserved : goal.loop-item-preserved
loop-item-preserved c =
    let l = c.loop-item in
    let steps : into_iter_items l.item-iterator ≡ c.in-Some.item ∷ into_iter_items c.next.new.self = c.in-Some.ensures.steps.0 in
    let found : Some (list_data c.in_ok-list.list.items) ≡ as_array (tree_data c.in-Some.item) = search rules in
    record {
      order = append_assoc l.yielded (c.in-Some.item ∷ []) _ ∙ rw (← steps) l.invariant.order;
      so_far = rw c.in_ok-push.ensures.items (lists_more l.yielded c.in-Some.item l.lists.items c.in_ok-list.list l.invariant.so_far found);
      count = (
          let was = l.invariant.count in
          let gone = c.in-Some.ensures.steps.1 in
          let short = ap length steps in
          omega arith);
    }

pub returns-clause-ok : goal.returns-clause-ok
returns-clause-ok c =
    let l = c.loop-item in
    let all = all_yielded l.yielded (into_iter_items l.item-iterator) c.args.items.items l.invariant.order
    (sym l.invariant.count ∙ c.in-None.ensures.steps.0) in
    let read : SpellLists c.args.items.items l.lists.items = rw all at l.invariant.so_far in
    read.trees
