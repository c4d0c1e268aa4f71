use Rattle.std.proofs.Common.{rules, refl}
use Rattle.dl_desk.proofs.FieldMarks.{desk_unprepared}
use Rattle.dl_desk.proofs.desk.Desk.is_shown.Goals as goal

pub returns-clause-shown : goal.returns-clause-shown
returns-clause-shown c = λ is.
    let same = c.self.invariant.unmarked (search rules) in
    let d = desk_unprepared _ c.self.invariant same in
    rw (← c.self.view_is, d.0, d.1, same.extent) refl
