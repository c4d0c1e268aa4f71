use Rattle.std.proofs.Common.{◌≡◌, ◌∙◌, ap, sym, subst, arith}
use Rattle.std.specs.Prelude.{Result, Ok, Err, IfOk, OnOk}
use Rattle.indexmap.specs.IndexSet.{insert_all}
use Rattle.serde_json.specs.Find.{as_array}
use Rattle.serde_json.specs.View.{view, items_view}
use Rattle.dl_values.specs.Key.{key_eq}
use Rattle.dl_terms.specs.declared.answer.Answer.TheVariants.{Fault}
use Rattle.dl_terms.specs.declared.answer.EvalFault.TheVariants.{TooMany}
use Rattle.dl_terms.specs.TermAnswers.{listing, Targets, targets_waits, item_targets, list_targets, target_answers, each_target_waits}
use Rattle.dl_terms.specs.Node.{node_view, nodes_view}
use Rattle.dl_terms.specs.Asked.{known_of, wanted_of}
use Rattle.dl_terms.specs.Inside.Exploration.{LoadsTargets, LoadsEach, JoinsOn}
use Rattle.dl_terms.proofs.Views.{node_view-Done}
use Rattle.dl_terms.proofs.Reductions.{fault_loads, too_many, not_many, joins_on}
use Rattle.dl_terms.proofs.field.load_list.Goals as goal

if_ok : {X E : Type 0} (r : Result X E) (P Q : X → Type 0) → ((x : X) → P x → Q x) → IfOk r P → IfOk r Q
if_ok (Ok x) P Q f h = f x h
if_ok (Err e) P Q f h = h

on_ok : {X E : Type 0} (r : Result X E) (R : Type 0) → R → OnOk r R
on_ok (Ok x) R h = h
on_ok (Err e) R h = tt

pub returns-then-len-gt-MOST_ITEMS-clause-stands : goal.returns-then-len-gt-MOST_ITEMS-clause-stands
returns-then-len-gt-MOST_ITEMS-clause-stands c =
    let is = too_many c.args.table.now (as_array (view c.args.ids.now)) c.in-Some.ids.now.items c.in-Some.ensures
    (omega (arith, c.len.ensures, c.in-Some.ids.now.ok.0, c.if-len-gt-MOST_ITEMS.true)) in
    fault_loads (known_of c.args.asked.now) (list_targets c.args.table.now (as_array (view c.args.ids.now))) TooMany _ is (node_view-Done (Fault TooMany))

pub returns-then-len-gt-MOST_ITEMS-clause-wanted : goal.returns-then-len-gt-MOST_ITEMS-clause-wanted
returns-then-len-gt-MOST_ITEMS-clause-wanted c =
    let is = too_many c.args.table.now (as_array (view c.args.ids.now)) c.in-Some.ids.now.items c.in-Some.ensures
    (omega (arith, c.len.ensures, c.in-Some.ids.now.ok.0, c.if-len-gt-MOST_ITEMS.true)) in
    ap (λ x. insert_all key_eq (wanted_of c.args.asked.now) (targets_waits (known_of c.args.asked.now) x)) (sym is)

pub returns-in_ok-nodes-in-Some-clause-stands : goal.returns-in_ok-nodes-in-Some-clause-stands
returns-in_ok-nodes-in-Some-clause-stands c =
    let p = known_of c.args.asked.now in
    let table = c.args.table.now in
    let ids = c.in-Some.ids.now.items in
    let is : list_targets table (as_array (view c.args.ids.now)) ≡ Targets.keys (item_targets table (items_view ids)) =
    not_many table (as_array (view c.args.ids.now)) ids c.in-Some.ensures (omega (arith, c.len.ensures, c.in-Some.ids.now.ok.0, c.if-len-gt-MOST_ITEMS.false))
    in
    let nodes = nodes_view c.in_ok-nodes-in-Some.nodes.items in
    let stand : LoadsEach p (item_targets table (items_view ids)) nodes =
    subst (λ vs. LoadsEach p (item_targets table (items_view vs)) nodes) c.as_slice.ensures.value c.in_ok-nodes-in-Some.ensures.stand in
    subst (λ x. IfOk c.put_together.result (λ n. LoadsTargets p x (node_view n))) (sym is)
    (if_ok c.put_together.result (λ n. JoinsOn listing nodes (node_view n)) (λ n. LoadsTargets p (Targets.keys (item_targets table (items_view ids))) (node_view n))
    (λ n on. joins_on p listing (λ q. target_answers q (item_targets table (items_view ids))) (λ q. each_target_waits q (item_targets table (items_view ids))) nodes
    (node_view n) stand on) c.put_together.ensures)

pub returns-in_ok-nodes-in-Some-clause-wanted : goal.returns-in_ok-nodes-in-Some-clause-wanted
returns-in_ok-nodes-in-Some-clause-wanted c =
    let p = known_of c.args.asked.now in
    let table = c.args.table.now in
    let ids = c.in-Some.ids.now.items in
    let is : list_targets table (as_array (view c.args.ids.now)) ≡ Targets.keys (item_targets table (items_view ids)) =
    not_many table (as_array (view c.args.ids.now)) ids c.in-Some.ensures (omega (arith, c.len.ensures, c.in-Some.ids.now.ok.0, c.if-len-gt-MOST_ITEMS.false))
    in
    on_ok c.put_together.result _
    (c.in_ok-nodes-in-Some.ensures.wanted
    ∙ (ap (λ vs. insert_all key_eq (wanted_of c.args.asked.now) (each_target_waits p (item_targets table (items_view vs)))) c.as_slice.ensures.value
    ∙ ap (λ x. insert_all key_eq (wanted_of c.args.asked.now) (targets_waits p x)) (sym is)))
