use Rattle.std.proofs.Common.{rules}
use Rattle.dl_source.proofs.Lookups.{lookup-named}
use Rattle.dl_source.proofs.tables.Table.finding.Goals as goal

pub returns : goal.returns
returns c = let same = lookup-named c.args.id.now c.self.inside.findings.entries in search rules
