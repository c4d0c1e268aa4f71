use Rattle.std.proofs.Common.{refl}
use Rattle.std.proofs.lemmas.Result.{IfOk-from_err}
use Rattle.serde_json.specs.View.{items_view, view}
use Rattle.dl_documents.specs.Reading.{number_in}
use Rattle.dl_replay.proofs.Lists.{found_all, found_first, found_more, found_stops}
use Rattle.dl_replay.specs.Reading.{numbers_listed}
use Rattle.dl_replay.proofs.reading.each_number.Goals as goal

pub returns-in_err-numbers : goal.returns-in_err-numbers
returns-in_err-numbers c = IfOk-from_err _ _ c.from_residual.ensures.0

pub returns-in_err-push : goal.returns-in_err-push
returns-in_err-push c = IfOk-from_err _ _ c.from_residual-in_err-push.ensures.0

pub loop-item-init : goal.loop-item-init
loop-item-init c = found_first c.in_ok-numbers.numbers.items _ c.in_ok-numbers.ensures.items

pub loop-item-preserved : goal.loop-item-preserved
loop-item-preserved c =
    found_more (λ v. number_in (view v)) (λ vs. numbers_listed (items_view vs)) (λ v vs. refl) c.loop-item.numbers.items c.push.new.self.items
    c.in-Some.number c.args.items.now c.loop-item.item-index c.item-item.result c.loop-item.invariant c.loop-item-test.true c.item-item.is
    c.in-Some.ensures c.in_ok-push.ensures.items

pub returns-in_default : goal.returns-in_default
returns-in_default c =
    found_stops (λ v. number_in (view v)) (λ vs. numbers_listed (items_view vs)) (λ v vs. refl) c.loop-item.numbers.items c.args.items.now
    c.loop-item.item-index c.item-item.result c.loop-item.invariant c.loop-item-test.true c.item-item.is c.in_default.ensures

pub returns : goal.returns
returns c =
    found_all (λ v. number_in (view v)) (λ vs. numbers_listed (items_view vs)) (λ v vs. refl) refl c.loop-item.numbers.items c.args.items.now
    c.loop-item.item-index c.loop-item.invariant c.loop-item-test.false
