-- The keys so far stand behind the batch.
use Rattle.std.proofs.Common.{◌≡◌, ◌++◌, codes, decimal, flat_map, string_bytes, take}
use Rattle.dl_plans.specs.ReplyLines.{next_key}
use Rattle.dl_plans.proofs.reply_lines.push_job.Given as goal

abbrev pub invariant-loop-key : goal.invariant-loop-key
invariant-loop-key l = string_bytes l.out ≡ string_bytes l.fn.out ++ (codes "job " ++ decimal l.job.batch ++ flat_map next_key (take l.key-index l.key-items))
