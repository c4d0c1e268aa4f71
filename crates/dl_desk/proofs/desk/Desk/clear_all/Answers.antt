use Rattle.std.proofs.Common.{[]}
use Rattle.dl_desk.proofs.FieldMarks.{desk_forgot}
use Rattle.dl_desk.proofs.desk.Desk.clear_all.Goals as goal

pub invariant_of-self : goal.invariant_of-self
invariant_of-self c = rw c.truncate.ensures.entries (desk_forgot _ [] c.self.invariant)
