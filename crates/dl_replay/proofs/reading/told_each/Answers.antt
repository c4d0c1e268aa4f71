use Rattle.std.proofs.Common.{◌∙◌, ◌∷◌, [], map, option_map, refl, sym, ap}
use Rattle.std.proofs.lemmas.List.{map-append}
use Rattle.std.proofs.lemmas.Result.{IfOk-from_err}
use Rattle.serde_json.specs.View.{items_view, view}
use Rattle.dl_replay.proofs.Lists.{found_all, found_first, found_more, found_stops}
use Rattle.dl_replay.specs.Reading.{one_told_in, told_listed, told_view}
use Rattle.dl_replay.proofs.reading.told_each.Goals as goal

pub returns-in_err-all : goal.returns-in_err-all
returns-in_err-all c = IfOk-from_err _ _ c.from_residual.ensures.0

pub returns-in_err-told : goal.returns-in_err-told
returns-in_err-told c = IfOk-from_err _ _ c.from_residual-in_err-told.ensures.0

pub returns-in_err-push : goal.returns-in_err-push
returns-in_err-push c = IfOk-from_err _ _ c.from_residual-in_err-push.ensures.0

pub loop-item-init : goal.loop-item-init
loop-item-init c = found_first (map told_view c.in_ok-all.all.items) _ (ap (map told_view) c.in_ok-all.ensures.items)

pub loop-item-preserved : goal.loop-item-preserved
loop-item-preserved c =
    found_more (λ v. one_told_in (view v)) (λ vs. told_listed (items_view vs)) (λ v vs. refl) (map told_view c.loop-item.all.items)
    (map told_view c.push.new.self.items) (told_view c.in-Some.told) c.args.items.now c.loop-item.item-index c.item-item.result
    c.loop-item.invariant c.loop-item-test.true c.item-item.is (sym (ap (option_map told_view) c.in-Some.is) ∙ c.in_ok-told.ensures)
    (ap (map told_view) c.in_ok-push.ensures.items ∙ map-append told_view c.loop-item.all.items (c.in-Some.told ∷ []))

pub returns-in_default : goal.returns-in_default
returns-in_default c =
    found_stops (λ v. one_told_in (view v)) (λ vs. told_listed (items_view vs)) (λ v vs. refl) (map told_view c.loop-item.all.items)
    c.args.items.now c.loop-item.item-index c.item-item.result c.loop-item.invariant c.loop-item-test.true c.item-item.is
    (sym (ap (option_map told_view) c.in_default.is) ∙ c.in_ok-told.ensures)

pub returns : goal.returns
returns c =
    found_all (λ v. one_told_in (view v)) (λ vs. told_listed (items_view vs)) (λ v vs. refl) refl (map told_view c.loop-item.all.items)
    c.args.items.now c.loop-item.item-index c.loop-item.invariant c.loop-item-test.false
