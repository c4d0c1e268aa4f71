use Rattle.std.proofs.Common.{◌≡◌, ◌∙◌, sym, ℕ, ◌-◌, suc, false, arith}
use Rattle.dl_desk.specs.Inside.Preparation.{has_room_in}
use Rattle.dl_desk.proofs.TwoBooks.{length-begun}
use Rattle.dl_desk.proofs.OpenBatch.{last_room, next_room}
use Rattle.dl_desk.proofs.desk.Desk.newest.Goals as goal
use Rattle.dl_desk.proofs.desk.Desk.newest.Goals.{else-next-gt0-via-then-next-gt0+else-is_open, else-next-gt0-via-else-next-gt0}

pub returns-then-is_open-clause-room : goal.returns-then-is_open-clause-room
returns-then-is_open-clause-room c = last_room c.args.self.now.prepared (c.self.inside.prepared.begun - 1) c.requires
    (rw (← c.self.view_is) (length-begun _ _ _ c.self.invariant.prepared_book ∙ omega arith)) (sym c.if-is_open.ensures)

pub returns-else-next-gt0-clause-room : goal.returns-else-next-gt0-clause-room
returns-else-next-gt0-clause-room c = next_room c.args.self.now.prepared c.self.inside.prepared.begun c.requires
    (rw (← c.self.view_is) (length-begun _ _ _ c.self.invariant.prepared_book)) full
  where
    full : (m : ℕ) → c.self.inside.prepared.begun ≡ suc m → has_room_in c.args.self.now.prepared m ≡ false
    full m is = elim c.else-next-gt0.branch [
      | else-next-gt0-via-then-next-gt0+else-is_open w ↦
          let same : m ≡ c.self.inside.prepared.begun - 1 = omega arith in
          rw same (sym w.if-is_open.ensures)
      | else-next-gt0-via-else-next-gt0 w ↦ let low = w.if-next-gt0 in absurd (omega arith)
    ]
