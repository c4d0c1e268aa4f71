use Rattle.std.proofs.Common.{◌∙◌, refl, ap, subst}
use Rattle.std.specs.List.{AllZip}
use Rattle.std.proofs.lemmas.List.{take_all}
use Rattle.std.proofs.lemmas.Result.{IfOk-from_err}
use Rattle.serde_json.specs.View.{view, items_view}
use Rattle.indexmap.specs.IndexSet.{insert_all}
use Rattle.dl_values.specs.Key.{key_eq}
use Rattle.dl_terms.specs.TermAnswers.{outcome_in, value_target, item_targets, target_waits, each_target_waits}
use Rattle.dl_terms.specs.Node.{node_view}
use Rattle.dl_terms.specs.Asked.{known_of, wanted_of}
use Rattle.dl_terms.specs.Inside.Exploration.{LoadsTarget}
use Rattle.dl_terms.proofs.Reductions.{ids_load, zip_next, wanted_next}
use Rattle.dl_terms.proofs.target.load_ids.Goals as goal

pub loop-id-preserved : goal.loop-id-preserved
loop-id-preserved c =
    let p = known_of c.args.asked.now in
    let table = c.args.table.now in
    let ids = c.args.ids.now in
    let i = c.loop-id.id-index in
    let h = c.loop-id.invariant in
    let loaded = c.in_ok-load_id.ensures in
    let target = value_target table (view c.id-item.result) in
    record {
      pairs = loaded.pairs ∙ h.pairs;
      stand = zip_next ids i c.id-item.result c.loop-id-test.true c.id-item.is (λ v n. LoadsTarget p (value_target table (view v)) (node_view n))
          c.loop-id.nodes.items c.push.new.self.items c.in_ok-load_id.field-0
          c.in_ok-push.ensures.items h.stand
          (subst (λ ps. LoadsTarget (outcome_in ps) target (node_view c.in_ok-load_id.field-0)) h.pairs loaded.stands);
      wanted = wanted_next ids i c.id-item.result c.loop-id-test.true c.id-item.is (λ v. target_waits p (value_target table (view v)))
          (λ vs. each_target_waits p (item_targets table (items_view vs))) (λ rest. refl)
          (wanted_of c.loop-id.asked) (wanted_of c.load_id.new.asked) _ h.wanted
          (loaded.wanted ∙ ap (λ ps. insert_all key_eq (wanted_of c.loop-id.asked) (target_waits (outcome_in ps) target)) h.pairs);
    }

pub returns-clause-stand : goal.returns-clause-stand
returns-clause-stand c =
    let p = known_of c.args.asked.now in
    let table = c.args.table.now in
    let ids = c.args.ids.now in
    ids_load p table ids c.loop-id.nodes.items
    (subst (λ vs. AllZip (λ v n. LoadsTarget p (value_target table (view v)) (node_view n)) vs c.loop-id.nodes.items)
    (take_all c.loop-id.id-index ids c.loop-id-test.false) c.loop-id.invariant.stand)

pub returns-in_err-nodes-clause-stand : goal.returns-in_err-nodes-clause-stand
returns-in_err-nodes-clause-stand c = IfOk-from_err _ _ c.from_residual-in_err-nodes.ensures.0

pub returns-in_err-nodes-clause-wanted : goal.returns-in_err-nodes-clause-wanted
returns-in_err-nodes-clause-wanted c = IfOk-from_err _ _ c.from_residual-in_err-nodes.ensures.0

pub returns-in_err-load_id-clause-stand : goal.returns-in_err-load_id-clause-stand
returns-in_err-load_id-clause-stand c = IfOk-from_err _ _ c.from_residual-in_err-load_id.ensures.0

pub returns-in_err-load_id-clause-wanted : goal.returns-in_err-load_id-clause-wanted
returns-in_err-load_id-clause-wanted c = IfOk-from_err _ _ c.from_residual-in_err-load_id.ensures.0

pub returns-in_err-push-clause-stand : goal.returns-in_err-push-clause-stand
returns-in_err-push-clause-stand c = IfOk-from_err _ _ c.from_residual-in_err-push.ensures.0

pub returns-in_err-push-clause-wanted : goal.returns-in_err-push-clause-wanted
returns-in_err-push-clause-wanted c = IfOk-from_err _ _ c.from_residual-in_err-push.ensures.0
