use Rattle.std.proofs.Common.{◌≡◌, ◌∙◌, sym, refl, ap}
use Rattle.std.proofs.Common.{arith}
use Rattle.std.proofs.lemmas.Grind.{common_steps}
use Rattle.std.proofs.lemmas.List.Edits.{map_over_more}
use Rattle.dl_gather.specs.Tasks.{turned}
use Rattle.dl_gather.proofs.tasks.turn_each.Goals as goal

pub loop-task-preserved : goal.loop-task-preserved
loop-task-preserved c = grind (arith, common_steps, map_over_more (turned c.args.turn), c.loop-task.invariant, c.turned.ensures)
