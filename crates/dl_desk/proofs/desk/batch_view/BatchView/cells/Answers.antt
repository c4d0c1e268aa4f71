use Rattle.std.proofs.Common.{sym}
use Rattle.std.proofs.lemmas.Slice.Zip.{seconds-zip}
use Rattle.dl_desk.proofs.desk.batch_view.BatchView.cells.Goals as goal

pub returns : goal.returns
returns c = rw (← c.self.view_is) (sym (seconds-zip _ _ (sym c.self.invariant)))
