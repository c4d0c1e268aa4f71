-- The lines of the jobs so far stand behind the first.
use Rattle.std.proofs.Common.{◌≡◌, ◌++◌, codes, decimal, flat_map, length, string_bytes, take}
use Rattle.dl_plans.specs.ReplyLines.{text_line, job_line}
use Rattle.dl_plans.proofs.reply_lines.push_sent.Given as goal

abbrev pub invariant-loop-job : goal.invariant-loop-job
invariant-loop-job l = string_bytes l.out ≡ string_bytes l.fn.out ++ (text_line (codes "sent " ++ decimal (length l.jobs)) ++ flat_map job_line
    (take l.job-index l.jobs))
