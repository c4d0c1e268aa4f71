use Rattle.dl_desk.proofs.Zips.{show_front}
use Rattle.dl_desk.proofs.batch.StoredBatch.show.Goals as goal

pub returns-clause-shown : goal.returns-clause-shown
returns-clause-shown c = rw (← c.self.view_is, c.len-self-inside.ensures, c.self.inside.cells.ok.0) (show_front _ _ c.self.inside.seen _ c.self.invariant.same)
