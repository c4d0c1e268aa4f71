use Rattle.std.proofs.Common.{◌≡◌, ◌∷◌, ◌++◌, ◌+◌, [], true, false, drop, sym, ap, subst, ◌∙◌, append-nil, append_assoc, arith}
use Rattle.std.specs.List.{AllByRecursion}
use Rattle.dl_sqlite.specs.Form.{has_form, is_internal, own_tables}
use Rattle.dl_sqlite.proofs.Steps.{next_of, none_after}
use Rattle.dl_sqlite.proofs.Tables.{own_taken}
use Rattle.dl_sqlite.proofs.form.own_tables.Goals as goal

pub loop-table-preserved : goal.loop-table-preserved
loop-table-preserved c =
    let l = c.loop-table in
    let xs = c.args.tables.now in
    let x = c.table-item.result in
    let rest = own_tables (drop (l.table-index + 1) xs) in
    let here = next_of xs l.table-index x c.loop-table-test.true c.table-item.is in
    let kept : is_internal x.name ≡ false = ap is_internal (sym c.as_slice.ensures) ∙ sym c.is_internal.ensures ∙ c.if-is_internal.false in
    let own : own_tables (drop l.table-index xs) ≡ x ∷ rest = ap own_tables here ∙ own_taken x (drop (l.table-index + 1) xs) kept in
    record {
      tables = ap (λ o. o ++ rest) c.in_ok-push.ensures.items ∙ append_assoc l.own.items (c.in_ok-copy.field-0 ∷ []) rest
          ∙ ap (λ t. l.own.items ++ t ∷ rest) c.in_ok-copy.ensures ∙ ap (λ ts. l.own.items ++ ts) (sym own) ∙ l.invariant.tables;
      form = λ more. l.invariant.form (subst (AllByRecursion (λ t. has_form t ≡ true)) (sym own) (c.in_ok-check_table.ensures, more));
    }

pub returns-clause-tables : goal.returns-clause-tables
returns-clause-tables c =
    let none = none_after c.args.tables.now c.loop-table.table-index (omega arith) in
    sym (append-nil c.loop-table.own.items) ∙ ap (λ ts. c.loop-table.own.items ++ own_tables ts) (sym none) ∙ c.loop-table.invariant.tables

pub returns-clause-form : goal.returns-clause-form
returns-clause-form c =
    let none = none_after c.args.tables.now c.loop-table.table-index (omega arith) in
    c.loop-table.invariant.form (subst (λ ts. AllByRecursion (λ t. has_form t ≡ true) (own_tables ts)) (sym none) tt)
