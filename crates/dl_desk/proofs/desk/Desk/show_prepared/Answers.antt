use Rattle.dl_desk.proofs.FieldMarks.{desk_shown}
use Rattle.dl_desk.proofs.desk.Desk.show_prepared.Goals as goal

pub invariant_of-self : goal.invariant_of-self
invariant_of-self c = rw (c.show.ensures.tables, c.len-self-inside.ensures.len) (desk_shown _ _ c.self.invariant c.show.ensures.prepared c.show.ensures.shown)
