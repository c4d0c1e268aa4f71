-- The numbers have the replies so far.
use Rattle.std.proofs.Common.{List, ◌++◌, take}
use Rattle.dl_desk.specs.declared.reply.LoadReply.{LoadReply}
use Rattle.dl_picture.specs.Numbers.{AreLoadNumbers}
use Rattle.dl_picture.proofs.loads.LoadNumbers.with_loads.Given as goal

abbrev pub invariant-loop-reply : goal.invariant-loop-reply
invariant-loop-reply l = (before : List LoadReply) → AreLoadNumbers before l.fn.self → AreLoadNumbers (before ++ take l.reply-index l.replies) l.numbers
