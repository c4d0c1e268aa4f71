use Rattle.dl_desk.proofs.TableNames.{lookup-told}
use Rattle.dl_desk.proofs.table_map.TableMap.insert.Goals as goal

pub returns-clause-tells : goal.returns-clause-tells
returns-clause-tells c = rw (← c.self.view_is)
    (lookup-told c.self.inside.newest c.insert.new.self c.args.table.now c.args.newest (rw c.in_ok-try_copy.ensures at c.in_ok-insert.ensures.updates))
