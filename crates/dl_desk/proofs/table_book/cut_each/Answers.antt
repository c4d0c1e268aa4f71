use Rattle.std.proofs.Common.{◌∙◌, sym, ◌<◌, length, get_or, refl, arith}
use Rattle.dl_desk.specs.Inside.Preparation.{shown_batch}
use Rattle.dl_desk.proofs.TableLemmas.{touched_turn, touched_inside, touched_all}
use Rattle.dl_desk.proofs.table_book.cut_each.Goals as goal

pub index_mut-requires : goal.index_mut-requires
index_mut-requires c =
    let low : get_or c.args.touched.now c.loop-number.number-index 0 < length c.loop-number.batches.items =
    touched_inside c.args.touched.now c.loop-number.number-index _ c.loop-number.batches.items c.loop-number-test.true refl c.loop-number.invariant.0 in
    omega (arith, c.loop-number.batches.ok.0)

pub loop-number-preserved : goal.loop-number-preserved
loop-number-preserved c =
    touched_turn shown_batch c.args.touched.now c.loop-number.number-index _ c.loop-number.batches.items _ _ _ c.loop-number-test.true refl
    c.index_mut.ensures.value (c.cut.ensures.shown ∙ sym c.cut.ensures.prepared) c.cut.ensures.shown c.loop-number.invariant

pub returns-clause-prepared : goal.returns-clause-prepared
returns-clause-prepared c = sym (touched_all c.args.touched.now c.loop-number.number-index _ c.loop-number-test.false c.loop-number.invariant.0)
    ∙ c.loop-number.invariant.1
