use Rattle.std.proofs.Common.{subst, refl, arith}
use Rattle.std.specs.Prelude.{IfSome}
use Rattle.std.proofs.lemmas.List.{take_all}
use Rattle.serde_json.specs.View.{items_view, view}
use Rattle.dl_terms.specs.TermAnswers.{item_targets, value_target}
use Rattle.dl_picture.specs.Asking.{known_of}
use Rattle.dl_picture.specs.Seeking.{AreItems}
use Rattle.dl_picture.specs.TermLoads.{each_loads, target_loads}
use Rattle.dl_picture.proofs.FaultOrigins.{items_add}
use Rattle.dl_picture.proofs.PartAnswers.{loads_done, loads_next}
use Rattle.dl_picture.proofs.knowledge.Knowledge.rows_of.Goals as goal

pub loop-place-preserved : goal.loop-place-preserved
loop-place-preserved c =
    let table = c.args.table.now in
    let ids = c.args.ids.now in
    let i = c.loop-place.place in
    let x = c.index-ids-place.result in
    let h = c.loop-place.invariant in
    let next = items_add (known_of c.args.self.now) c.args.term.now table ids i x c.loop-place-test.true c.index-ids-place.is c.loop-place.rows c.in_ok-row_of.field-0
    c.in_ok-rows.rows h.rows h.waits c.in_ok-row_of.ensures.row c.in_ok-rows.ensures in
    record {
      rows = next.0;
      waits = next.1;
      loads = loads_next ids i x c.loop-place-test.true c.index-ids-place.is (λ vs. each_loads (item_targets table (items_view vs)))
          (target_loads (value_target table (view x))) (λ rest. refl) c.loop-place.asking.loads _ _ h.loads c.in_ok-row_of.ensures.loads;
    }

pub returns-clause-rows : goal.returns-clause-rows
returns-clause-rows c =
    subst (λ l. IfSome c.loop-place.rows (λ rows. AreItems (known_of c.args.self.now) c.args.term.now c.args.table.now 0 l rows.items))
    (take_all c.loop-place.place c.args.ids.now (omega (arith, c.loop-place-test.false))) c.loop-place.invariant.rows

pub returns-clause-loads : goal.returns-clause-loads
returns-clause-loads c =
    loads_done c.args.ids.now c.loop-place.place (omega (arith, c.loop-place-test.false)) (λ vs. each_loads (item_targets c.args.table.now (items_view vs))) refl
    c.loop-place.asking.loads _ c.loop-place.invariant.loads
