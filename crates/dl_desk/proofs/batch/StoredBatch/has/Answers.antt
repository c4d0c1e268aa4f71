use Rattle.std.proofs.Common.{◌∙◌}
use Rattle.dl_desk.proofs.Zips.{has_member-zip, any-key}
use Rattle.dl_desk.proofs.batch.StoredBatch.has.Goals as goal

pub returns-then-len-le-SCANNED-clause-has : goal.returns-then-len-le-SCANNED-clause-has
returns-then-len-le-SCANNED-clause-has c = rw (← c.self.view_is, has_member-zip _ _ c.args.key.now c.self.invariant.same)
    ((rw c.deref.ensures.value at c.contains.ensures.value) ∙ any-key c.self.inside.keys.items c.args.key.now)

pub returns-clause-has : goal.returns-clause-has
returns-clause-has c = rw (← c.self.view_is, has_member-zip _ _ c.args.key.now c.self.invariant.same)
    (rw (c.in_ok-index_keys.ensures.ok, c.as_slice.ensures.value) at c.contains-2.ensures)
