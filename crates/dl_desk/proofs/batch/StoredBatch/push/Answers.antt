use Rattle.dl_desk.proofs.Zips.{IsPushed, pushed, pushed_whole, pushed_front}
use Rattle.dl_desk.proofs.batch.StoredBatch.push.Goals as goal
use Rattle.dl_desk.proofs.batch.StoredBatch.push.Goals.{After-push_reserved-2}

is_pushed : (c : After-push_reserved-2) → IsPushed c.self.inside.keys.items c.self.inside.cells.items c.self.inside.seen c.self.inside.index.keys
    c.args.key.now c.args.cell c.push_reserved.new.self.items c.push_reserved-2.new.self.items
is_pushed c = record {
  before = c.self.invariant;
  keys = rw (c.reserve.ensures.items, c.in_ok-try_copy.ensures) at c.push_reserved.ensures.items;
  cells = rw c.reserve-2.ensures.items at c.push_reserved-2.ensures.items;
  new = rw (← c.self.view_is) at c.requires;
}

pub invariant_of-self-2 : goal.invariant_of-self-2
invariant_of-self-2 c = pushed (is_pushed c)

pub returns-clause-shown : goal.returns-clause-shown
returns-clause-shown c = rw (← c.self.view_is) (pushed_front (is_pushed c) _)

pub returns-clause-added : goal.returns-clause-added
returns-clause-added c = rw (← c.self.view_is) (pushed_whole (is_pushed c) _)
