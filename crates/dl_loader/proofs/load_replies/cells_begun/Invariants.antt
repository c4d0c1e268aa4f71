use Rattle.std.proofs.Common.{◌≡◌, ◌≤◌, take}
use Rattle.dl_loader.specs.Inside.NewCells.{cells_begun}
use Rattle.dl_loader.proofs.load_replies.cells_begun.Given as goal

abbrev pub invariant-loop-reply : goal.invariant-loop-reply
invariant-loop-reply l = (l.cells ≡ cells_begun (take l.reply-index l.replies)) × (l.cells ≤ l.reply-index)
