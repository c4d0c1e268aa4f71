use Rattle.std.proofs.Common.{◌∙◌, sym}
use Rattle.dl_desk.specs.Inside.Preparation.{shown_batch}
use Rattle.dl_desk.proofs.Tails.{same_all, cut_turn}
use Rattle.dl_desk.proofs.memo_and_batches.cut.Goals as goal

pub loop-number-preserved : goal.loop-number-preserved
loop-number-preserved c = cut_turn shown_batch c.loop-number.number c.args.to _ _ _ _ _ c.requires.within c.args.batches.now.ok.0 c.loop-number-test.true
    c.index_mut.ensures.value (c.cut.ensures.shown ∙ sym c.cut.ensures.prepared) c.cut.ensures.shown c.loop-number.invariant

pub returns-clause-prepared : goal.returns-clause-prepared
returns-clause-prepared c = sym (same_all c.loop-number.number c.args.to _ c.loop-number-test.false c.loop-number.invariant.0) ∙ c.loop-number.invariant.1
