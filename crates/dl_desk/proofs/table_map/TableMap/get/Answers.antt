use Rattle.std.proofs.Common.{◌∙◌}
use Rattle.dl_desk.proofs.TableNames.{lookup-name}
use Rattle.dl_desk.proofs.table_map.TableMap.get.Goals as goal

pub returns : goal.returns
returns c = rw (← c.self.view_is) (c.copied.ensures ∙ (c.get.ensures.value ∙ lookup-name c.args.table.now c.self.inside.newest.entries))
