use Rattle.std.proofs.Common.{ap, sym, ◌∙◌, option_and_then, arith}
use Rattle.dl_source.specs.Inside.Findings.{finding_of}
use Rattle.dl_source.specs.Inside.Reading.{pair_in}
use Rattle.dl_source.proofs.Members.{no_pair}
use Rattle.dl_source.proofs.table_reader.read_finding.Goals as goal

pub returns-then-len-ne2 : goal.returns-then-len-ne2
returns-then-len-ne2 c =
    let in_pair = pair_in (finding_of c.args.kind) in
    let items = c.in_ok-pair.pair.items in
    sym (ap (option_and_then in_pair) (sym c.in_ok-pair.ensures) ∙ no_pair (finding_of c.args.kind) items
    (λ two. c.if-len-ne2.true (omega arith)))
