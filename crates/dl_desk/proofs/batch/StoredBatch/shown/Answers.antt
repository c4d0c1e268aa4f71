use Rattle.indexmap.proofs.ReorderLemmas.{zip-take}
use Rattle.dl_desk.proofs.batch.StoredBatch.shown.Goals as goal

pub returns-clause-members : goal.returns-clause-members
returns-clause-members c = rw (← c.self.view_is, c.deref.ensures.value, c.deref-2.ensures.value)
    (zip-take c.self.inside.seen c.self.inside.keys.items c.self.inside.cells.items)
