use Rattle.std.proofs.Common.{arith}
use Rattle.std.proofs.lemmas.Result.{err_from_is_err_and}
use Rattle.dl_c_values.specs.declared.codes.TheConstants.{BAD_TEXT}
use Rattle.dl_c_values.specs.Tables.{IsNamed, front_table, name_width}
use Rattle.dl_c_values.proofs.Cuts.{fault_code}
use Rattle.dl_c_values.proofs.tables.limits_of_tables.Goals as goal

pub returns-in_err-list-clause-refused : goal.returns-in_err-list-clause-refused
returns-in_err-list-clause-refused c =
    let p = err_from_is_err_and c.from_residual.result c.from_residual.ensures.1 in
    rw (p.1, p.2) (fault_code name_width front_table IsNamed BAD_TEXT (omega arith) c.args.names.now c.args.tables.now _ c.in_err-list.ensures.fault)
