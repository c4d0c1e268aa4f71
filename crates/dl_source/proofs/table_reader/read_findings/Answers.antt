use Rattle.std.proofs.Common.{arith}
use Rattle.std.proofs.lemmas.Grind.{common_steps}
use Rattle.std.proofs.lemmas.Result.{err_from_is_err_and}
use Rattle.dl_source.proofs.table_reader.read_findings.Goals as goal

pub returns-in_err-rows : goal.returns-in_err-rows
returns-in_err-rows c =
    let p = err_from_is_err_and c.from_residual.result c.from_residual.ensures.1 in
    rw (p.1, p.2) (grind (arith, common_steps))

pub returns-in_err-read_list : goal.returns-in_err-read_list
returns-in_err-read_list c =
    let p = err_from_is_err_and c.from_residual-in_err-read_list.result c.from_residual-in_err-read_list.ensures.1 in
    rw (p.1, p.2) (grind (arith, common_steps))

pub returns-in_err-read_optional : goal.returns-in_err-read_optional
returns-in_err-read_optional c =
    let p = err_from_is_err_and c.from_residual-in_err-read_optional.result c.from_residual-in_err-read_optional.ensures.1 in
    rw (p.1, p.2) (grind (arith, common_steps))

pub returns-in_err-read_optional-2 : goal.returns-in_err-read_optional-2
returns-in_err-read_optional-2 c =
    let p = err_from_is_err_and c.from_residual-in_err-read_optional-2.result c.from_residual-in_err-read_optional-2.ensures.1 in
    rw (p.1, p.2) (grind (arith, common_steps))
