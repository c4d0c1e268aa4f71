use Rattle.dl_desk.proofs.FieldMarks.{desk_forgot}
use Rattle.dl_desk.proofs.desk.Desk.forget_own.Goals as goal

pub invariant_of-self : goal.invariant_of-self
invariant_of-self c = rw c.len-self-inside.ensures.len (desk_forgot _ c.forget.new.memo.entries c.self.invariant)
