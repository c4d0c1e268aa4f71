use Rattle.std.proofs.Common.{refl}
use Rattle.dl_desk.proofs.Zips.{index_more}
use Rattle.dl_desk.proofs.batch.index_keys.Goals as goal

pub loop-place-preserved : goal.loop-place-preserved
loop-place-preserved c = index_more c.args.keys.now c.loop-place.place _ c.index-keys-place.result _ _ c.requires.once refl c.loop-place-test.true
    c.index-keys-place.is c.loop-place.invariant (rw c.in_ok-try_copy.ensures at c.in_ok-insert.ensures.keys)
