use Rattle.std.specs.Str.{IsAscii}
use Rattle.dl_values.proofs.TextPairs.{cut_of_ascii}
use Rattle.dl_values.proofs.short_text.is_cut.Goals as goal

pub returns-then-is_ascii : goal.returns-then-is_ascii
returns-then-is_ascii c =
    let ascii : IsAscii c.args.bytes.now = rw c.if-is_ascii.true at c.is_ascii.ensures.cases in
    (λ _. cut_of_ascii c.args.bytes.now c.args.seam ascii c.requires, λ _. c.if-is_ascii.true)
