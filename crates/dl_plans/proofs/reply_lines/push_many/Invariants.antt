-- The lines of the replies so far stand behind the first.
use Rattle.std.proofs.Common.{◌≡◌, ◌++◌, codes, decimal, flat_map, length, string_bytes, take}
use Rattle.dl_plans.specs.ReplyLines.{text_line, load_line}
use Rattle.dl_plans.proofs.reply_lines.push_many.Given as goal

abbrev pub invariant-loop-reply : goal.invariant-loop-reply
invariant-loop-reply l = string_bytes l.out ≡ string_bytes l.fn.out ++ (text_line (codes "many " ++ decimal (length l.replies)) ++ flat_map load_line
    (take l.reply-index l.replies))
