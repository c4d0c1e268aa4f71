use Rattle.std.proofs.Common.{sym}
use Rattle.dl_desk.proofs.MemoPlaces.{found_at}
use Rattle.dl_desk.proofs.desk.Desk.found.Goals as goal

pub returns-in-Some-clause-place : goal.returns-in-Some-clause-place
returns-in-Some-clause-place c =
    rw (← c.self.view_is) (found_at c.self.inside.memo.entries c.in-Some.place c.args.key.now _ _ c.in-Some.ensures.entry (sym c.in-Some.ensures.key))
