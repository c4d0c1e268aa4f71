use Rattle.std.proofs.Common.{◌∙◌, Some, refl, sym, ap}
use Rattle.std.specs.Option.{option_and_then}
use Rattle.std.proofs.lemmas.Result.{IfOk-from_err}
use Rattle.dl_documents.specs.Inside.Trees.{tree_data, list_data}
use Rattle.dl_documents.proofs.FindingLists.{found_all, found_first, found_more, found_stops}
use Rattle.dl_documents.specs.Reading.{key_in, keys_listed}
use Rattle.dl_documents.proofs.argument.keys.Goals as goal

pub returns-in_err-keys : goal.returns-in_err-keys
returns-in_err-keys c = IfOk-from_err _ _ c.from_residual.ensures.0

pub returns-in_err-key : goal.returns-in_err-key
returns-in_err-key c = IfOk-from_err _ _ c.from_residual-in_err-key.ensures.0

pub returns-in_err-push : goal.returns-in_err-push
returns-in_err-push c = IfOk-from_err _ _ c.from_residual-in_err-push.ensures.0

pub returns-in_err-new : goal.returns-in_err-new
returns-in_err-new c = IfOk-from_err _ _ c.from_residual-in_err-new.ensures.0

pub loop-item-init : goal.loop-item-init
loop-item-init c = found_first c.in_ok-keys.keys.items _ c.in_ok-keys.ensures.items

pub loop-item-preserved : goal.loop-item-preserved
loop-item-preserved c =
    found_more (λ v. key_in (tree_data v)) (λ vs. keys_listed (list_data vs))
    (λ v vs. refl) c.loop-item.keys.items c.push.new.self.items c.in-Some-2.key
    c.in-Some.items.now c.loop-item.item-index c.item-item.result
    c.loop-item.invariant c.loop-item-test.true c.item-item.is (sym c.in-Some-2.is ∙ c.in_ok-key.ensures) c.in_ok-push.ensures.items

pub returns-in_default : goal.returns-in_default
returns-in_default c = ap (option_and_then keys_listed) c.in_default.ensures

pub returns-in_default-2 : goal.returns-in_default-2
returns-in_default-2 c =
    found_stops (λ v. key_in (tree_data v)) (λ vs. keys_listed (list_data vs)) (λ v vs. refl) c.loop-item.keys.items
    c.in-Some.items.now c.loop-item.item-index c.item-item.result c.loop-item.invariant c.loop-item-test.true c.item-item.is
    (sym c.in_default-2.is ∙ c.in_ok-key.ensures)
    ∙ ap (option_and_then keys_listed) c.in-Some.ensures

pub returns : goal.returns
returns c =
    ap Some c.in_ok-new.ensures
    ∙ (found_all (λ vs. keys_listed (list_data vs)) refl c.loop-item.keys.items c.in-Some.items.now c.loop-item.item-index
    c.loop-item.invariant c.loop-item-test.false ∙ ap (option_and_then keys_listed) c.in-Some.ensures)
