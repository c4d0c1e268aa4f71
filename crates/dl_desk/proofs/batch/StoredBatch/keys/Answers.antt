use Rattle.std.proofs.Common.{◌∙◌, sym}
use Rattle.std.proofs.lemmas.Slice.Zip.{firsts-zip}
use Rattle.dl_desk.proofs.batch.StoredBatch.keys.Goals as goal

pub returns : goal.returns
returns c = rw (← c.self.view_is) (c.as_slice.ensures.value ∙ sym (firsts-zip _ _ (sym c.self.invariant.same)))
