use Rattle.std.proofs.Common.{◌≡◌, ◌∷◌, length, ap, sym, ◌∙◌, arith, rules}
use Rattle.std.proofs.lemmas.Result.{err_from_is_err_and}
use Rattle.std.specs.Vec.Iter.{into_iter_items}
use Rattle.dl_source.specs.Inside.Reading.{numbered_in}
use Rattle.dl_source.proofs.Lists.{nothing_left, read_more, read_none, read_all, also_refused}
use Rattle.dl_source.proofs.table_reader.read_tables.Goals as goal

pub returns-in_err-items : goal.returns-in_err-items
returns-in_err-items c =
    let p = err_from_is_err_and c.from_residual.result c.from_residual.ensures.1 in
    rw (p.1, p.2) (search rules)

pub returns-in_err-tables : goal.returns-in_err-tables
returns-in_err-tables c =
    let p = err_from_is_err_and c.from_residual-in_err-tables.result c.from_residual-in_err-tables.ensures.1 in
    rw (p.1, p.2) tt

pub loop-item-preserved : goal.loop-item-preserved
loop-item-preserved c =
    let l = c.loop-item in
    let rest = into_iter_items c.next.new.self in
    let steps : into_iter_items l.item-iterator ≡ c.in-Some.item ∷ rest = c.in-Some.ensures.steps.0 in
    record {
      read = rw c.in_ok-push.ensures.items (read_more (numbered_in c.args.version) l.tables.items c.in-Some.item rest (into_iter_items l.item-iterator) _ steps
          l.invariant.read c.in_ok-read_table.field-0 c.in_ok-read_table.ensures);
      count = (
          let was = l.invariant.count in
          let gone = c.in-Some.ensures.steps.1 in
          let short = ap length steps in
          omega arith);
    }

pub returns-in_err-read_table : goal.returns-in_err-read_table
returns-in_err-read_table c =
    let l = c.loop-item in
    let rest = into_iter_items c.next.new.self in
    let p = err_from_is_err_and c.from_residual-in_err-read_table.result c.from_residual-in_err-read_table.ensures.1 in
    rw (p.1, p.2) (also_refused c.in_err-read_table.field-0.0 _ _ _ _ (read_none (numbered_in c.args.version) l.tables.items c.in-Some.item rest
    (into_iter_items l.item-iterator) _ c.in-Some.ensures.steps.0 l.invariant.read) c.in_err-read_table.ensures)

pub returns-in_err-push : goal.returns-in_err-push
returns-in_err-push c =
    let p = err_from_is_err_and c.from_residual-in_err-push.result c.from_residual-in_err-push.ensures.1 in
    rw (p.1, p.2) tt

pub returns : goal.returns
returns c =
    let l = c.loop-item in
    let none = c.in-None.ensures.steps in
    read_all (numbered_in c.args.version) l.tables.items (into_iter_items l.item-iterator) _ (nothing_left _ (sym l.invariant.count ∙ none.0)) l.invariant.read
