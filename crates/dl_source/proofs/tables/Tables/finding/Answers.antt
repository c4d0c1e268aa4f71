use Rattle.std.proofs.Common.{Some, None, Err, ap, sym, ◌∙◌}
use Rattle.std.specs.Result.{result_copied}
use Rattle.dl_source.proofs.Lookups.{found-named, found_row}
use Rattle.dl_source.proofs.tables.Tables.finding.Goals as goal

pub returns-in-None : goal.returns-in-None
returns-in-None c =
    let here =
    found-named c.args.self.now c.self.inside.tables.entries c.args.key.now c.table.result.now None c.self.view_is c.table.ensures.text
    c.in-None.ensures.value in
    ap Err c.self.invariant.0 ∙ sym here

pub returns-in-Some : goal.returns-in-Some
returns-in-Some c =
    let here =
    found-named c.args.self.now c.self.inside.tables.entries c.args.key.now c.table.result.now (Some c.in-Some.table.now) c.self.view_is
    c.table.ensures.text c.in-Some.ensures.value in
    ap result_copied c.ok_or.ensures.value ∙ found_row _ _ _ _ _ c.finding.ensures c.id.ensures.text c.self.invariant.1 ∙ sym here
