use Rattle.std.proofs.Common.{◌∙◌, ◌-◌, ap, length}
use Rattle.dl_loader.proofs.LoadCells.{loads_long}
use Rattle.dl_loader_c.proofs.Told.{makes}
use Rattle.dl_loader_c.proofs.Tickets.{tickets_after}
use Rattle.dl_loader_c.proofs.many.load_keys.Goals as goal

pub write-requires : goal.write-requires
write-requires g c =
    let after = tickets_after c.tickets.result c.in-Ok.ensures.made c.tickets.ensures in
    rw c.as_slice.ensures after.0

pub returns-in-Ok-clause-made : goal.returns-in-Ok-clause-made
returns-in-Ok-clause-made g c =
    let made = c.in-Ok.ensures.made in
    let replies = c.in-Ok.replies in
    let after = tickets_after c.tickets.result made c.tickets.ensures in
    let many = loads_long g.L.LoaderName.service c.args.loader.now.book c.load_many.new.self.book made.before made.after c.args.keys.now replies c.keeps.ensures
    made.made in
    let written = c.write.ensures (ap length c.as_slice.ensures ∙ (many ∙ c.requires)) in
    λ _. (replies, c.tickets.result - length replies, rw c.as_slice.ensures at written, after.1, makes g.L.LoaderName.service c.args.caller _ _ c.args.loader.now c.load_many.new.self c.keeps.ensures made)
