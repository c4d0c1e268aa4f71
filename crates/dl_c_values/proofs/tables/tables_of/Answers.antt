use Rattle.std.proofs.Common.{◌≡◌, ◌+◌, ◌<◌, length, inl, arith, rules}
use Rattle.std.proofs.lemmas.Grind.{common_steps}
use Rattle.std.proofs.lemmas.Result.{err_from_is_err_and}
use Rattle.dl_c_values.specs.declared.codes.TheConstants.{BAD_TEXT}
use Rattle.dl_c_values.specs.Cuts.{total_by}
use Rattle.dl_c_values.specs.Tables.{IsNamed, front_table, name_width}
use Rattle.dl_c_values.proofs.Cuts.{cut_more, cut_fault, cut_left, cut_total, cut_are_parts}
use Rattle.dl_c_values.proofs.tables.tables_of.Goals as goal

pub loop-table-preserved : goal.loop-table-preserved
loop-table-preserved c =
    rw (c.in-Ok-push.ensures.items, c.in_ok-named.ensures.table, c.in_ok-named.ensures.rest)
    (cut_more name_width front_table IsNamed BAD_TEXT c.args.names.now c.args.tables.now c.loop-table.table-index c.loop-table.list.items
    c.loop-table.rest.now _ c.loop-table-test.true c.loop-table.invariant c.in_ok-named.ensures.is_named c.in_ok-named.ensures.room)

pub returns-in_err-named-clause-fault : goal.returns-in_err-named-clause-fault
returns-in_err-named-clause-fault c =
    let p = err_from_is_err_and c.from_residual.result c.from_residual.ensures.1 in
    rw (p.1, p.2)
    (cut_fault name_width front_table IsNamed BAD_TEXT c.args.names.now c.args.tables.now c.loop-table.table-index c.loop-table.list.items
    c.loop-table.rest.now _ c.loop-table-test.true _ c.loop-table.invariant c.in_err-named.ensures.fault)

pub returns-then-is_empty-clause-are_names : goal.returns-then-is_empty-clause-are_names
returns-then-is_empty-clause-are_names c =
    let used : length c.args.names.now ≡ total_by name_width c.args.tables.now + length c.loop-table.rest.now =
    cut_total name_width front_table IsNamed BAD_TEXT c.args.names.now c.args.tables.now c.loop-table.table-index c.loop-table.list.items
    c.loop-table.rest.now c.loop-table-test.false c.loop-table.invariant in
    record {
      whole = grind (arith, common_steps);
      are_named = cut_are_parts name_width front_table IsNamed BAD_TEXT c.args.names.now c.args.tables.now c.loop-table.table-index
          c.loop-table.list.items c.loop-table.rest.now c.loop-table-test.false c.loop-table.invariant;
    }

pub returns-else-is_empty-clause-fault : goal.returns-else-is_empty-clause-fault
returns-else-is_empty-clause-fault c =
    let left : 0 < length c.loop-table.rest.now = search rules in
    inl (cut_left name_width front_table IsNamed BAD_TEXT c.args.names.now c.args.tables.now c.loop-table.table-index c.loop-table.list.items
    c.loop-table.rest.now c.loop-table-test.false c.loop-table.invariant left)
