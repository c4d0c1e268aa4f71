use Rattle.std.proofs.Common.{◌∙◌, sym}
use Rattle.dl_desk.proofs.Zips.{length-zip_same}
use Rattle.dl_desk.proofs.batch.StoredBatch.len.Goals as goal

pub returns : goal.returns
returns c = rw (← c.self.view_is) (c.len.ensures ∙ (c.self.inside.cells.ok.0 ∙ sym (length-zip_same _ _ c.self.invariant.same)))
