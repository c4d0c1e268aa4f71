use Rattle.std.proofs.Common.{◌≡◌, take, flat_map}
use Rattle.dl_replay.specs.Told.{load_numbers}
use Rattle.dl_replay.proofs.answer.loaded.Given as goal

abbrev pub invariant-loop-reply : goal.invariant-loop-reply
invariant-loop-reply l = l.numbers.items ≡ flat_map load_numbers (take l.reply-index l.replies)
