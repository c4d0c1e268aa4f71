use Rattle.dl_desk.proofs.Zips.{cut_members, cut_whole, cut_front}
use Rattle.dl_desk.proofs.batch.StoredBatch.cut.Goals as goal

pub invariant_of-self : goal.invariant_of-self
invariant_of-self c = rw (c.truncate.ensures.keys, c.truncate-2.ensures.items, c.truncate-3.ensures.items) (cut_members _ _ _ _ c.self.invariant)

pub returns-clause-prepared : goal.returns-clause-prepared
returns-clause-prepared c = rw (← c.self.view_is, c.truncate-2.ensures.items, c.truncate-3.ensures.items) (cut_whole _ _ _ _)

pub returns-clause-shown : goal.returns-clause-shown
returns-clause-shown c = rw (← c.self.view_is, c.truncate-2.ensures.items, c.truncate-3.ensures.items) (cut_front _ _ _ _)
