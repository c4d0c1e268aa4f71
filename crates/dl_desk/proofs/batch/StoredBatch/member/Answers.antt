use Rattle.std.proofs.Common.{◌<◌, length}
use Rattle.dl_desk.proofs.Zips.{length-zip_same, get-zip}
use Rattle.dl_desk.proofs.batch.StoredBatch.member.Goals as goal

pub index-requires : goal.index-requires
index-requires c =
    let h = rw (← c.self.view_is) at c.requires in
    let l : c.args.place < length c.self.inside.cells.items =
    rw (length-zip_same c.self.inside.keys.items c.self.inside.cells.items c.self.invariant.same) at h in
    rw (c.self.inside.keys.ok.0, c.self.invariant.same) l

pub index-requires-2 : goal.index-requires-2
index-requires-2 c =
    let h = rw (← c.self.view_is) at c.requires in
    let l : c.args.place < length c.self.inside.cells.items =
    rw (length-zip_same c.self.inside.keys.items c.self.inside.cells.items c.self.invariant.same) at h in
    rw c.self.inside.cells.ok.0 l

pub returns : goal.returns
returns c =
    let h = rw (← c.self.view_is) at c.requires in
    let l : c.args.place < length c.self.inside.cells.items =
    rw (length-zip_same c.self.inside.keys.items c.self.inside.cells.items c.self.invariant.same) at h in
    rw (← c.self.view_is)
    (get-zip c.self.inside.keys.items c.self.inside.cells.items c.args.place c.index.result.now c.index-2.result.now c.self.invariant.same
    (rw c.self.invariant.same l) c.index.ensures c.index-2.ensures)
