use Rattle.std.proofs.Common.{◌∙◌, sym}
use Rattle.dl_desk.specs.Inside.Preparation.{prepared_batch}
use Rattle.dl_desk.proofs.Tails.{same_all, cut_turn}
use Rattle.dl_desk.proofs.memo_and_batches.show.Goals as goal

pub loop-number-preserved : goal.loop-number-preserved
loop-number-preserved c = cut_turn prepared_batch c.loop-number.number c.args.to _ _ _ _ _ c.requires.within c.args.batches.now.ok.0 c.loop-number-test.true
    c.index_mut.ensures.value (c.show.ensures.shown ∙ sym c.show.ensures.prepared) c.show.ensures.prepared c.loop-number.invariant

pub returns-clause-shown : goal.returns-clause-shown
returns-clause-shown c = same_all c.loop-number.number c.args.to _ c.loop-number-test.false c.loop-number.invariant.0 ∙ c.loop-number.invariant.1
