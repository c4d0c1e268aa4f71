use Rattle.dl_desk.proofs.FieldMarks.{desk_cut}
use Rattle.dl_desk.proofs.desk.Desk.take_back.Goals as goal

pub invariant_of-self : goal.invariant_of-self
invariant_of-self c = rw c.cut.ensures.tables (desk_cut _ _ _ c.self.invariant c.cut.ensures.prepared c.cut.ensures.shown
    c.truncate.ensures.entries)
