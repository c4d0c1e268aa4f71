use Rattle.std.proofs.Common.{rules}
use Rattle.std.specs.HashSet.{contains_text}
use Rattle.std.proofs.lemmas.List.{drop_all}
use Rattle.dl_plans.proofs.TableNames.{names_go_on, names_end}
use Rattle.dl_plans.proofs.table_names.add_names.Goals as goal

pub loop-table-preserved : goal.loop-table-preserved
loop-table-preserved c = λ name.
    names_go_on name c.args.tables.now c.loop-table.table-index c.table-item.result c.loop-table-test.true c.table-item.is
    (contains_text c.loop-table.names name) (contains_text c.add_name.new.names name) _ (c.in_ok-add_name.ensures name) (c.loop-table.invariant name)

pub returns : goal.returns
returns c = λ name. names_end name _ _ _ (drop_all c.loop-table.table-index c.args.tables.now (search rules)) (c.loop-table.invariant name)
