use Rattle.std.proofs.Common.{◌≡◌, ◌∷◌, ◌++◌, ◌+◌, [], true, map, drop, append_assoc, append-nil, sym, ap, subst, ◌∙◌, arith}
use Rattle.std.proofs.lemmas.List.{map-append}
use Rattle.std.specs.List.{AllByRecursion}
use Rattle.serde_json.specs.View.{view}
use Rattle.sqlite_trees.specs.Tree.{Trees}
use Rattle.sqlite_trees.specs.View.{IsClean}
use Rattle.dl_sqlite.specs.Form.{has_form}
use Rattle.dl_sqlite.specs.Rows.{AreWhole, IsWhole, entry_json, table_json, tables_json}
use Rattle.dl_sqlite.proofs.Steps.{next_of, none_after}
use Rattle.dl_sqlite.proofs.Tables.{has_columns, open_unless_broken}
use Rattle.dl_sqlite.proofs.read.listed.Goals as goal

pub loop-table-preserved : goal.loop-table-preserved
loop-table-preserved g c =
    let l = c.loop-table in
    let xs = c.args.tables.now in
    let t = c.table-item.result in
    let first = g.S.Store.view c.args.store.now in
    let was = g.S.Store.view l.store in
    let now = g.S.Store.view c.entries.new.store in
    let here = next_of xs l.table-index t c.loop-table-test.true c.table-item.is in
    let rest = tables_json first.trees (drop (l.table-index + 1) xs) in
    let pushed = ap (map view) c.in_ok-push.ensures.items ∙ map-append view l.listed.items (c.in_ok-one_table.field-0 ∷ []) in
    record {
      clean = omega (arith, c.in_ok-rows.ensures.clean, l.invariant.clean);
      same = λ clean. c.in_ok-rows.ensures.same clean ∙ l.invariant.same (omega (arith, c.in_ok-rows.ensures.clean));
      json = λ clean.
          let early : IsClean was = omega (arith, c.in_ok-rows.ensures.clean) in
          let rows : map view c.in_ok-rows.rows.items ≡ map (entry_json t) (first.trees t.tree) =
          c.in_ok-rows.ensures.json clean ∙ ap (λ (ts : Trees). map (entry_json t) (ts t.tree)) (l.invariant.same early) in
          ap (λ ds. ds ++ rest) pushed ∙ append_assoc (map view l.listed.items) (view c.in_ok-one_table.field-0 ∷ []) rest
          ∙ ap (λ d. map view l.listed.items ++ d ∷ rest) (c.in_ok-one_table.ensures ∙ ap (table_json t) rows)
          ∙ ap (λ ts. map view l.listed.items ++ tables_json first.trees ts) (sym here) ∙ l.invariant.json early;
      whole = λ clean more.
          let early : IsClean was = omega (arith, c.in_ok-rows.ensures.clean) in
          let one = subst (λ (ts : Trees). AllByRecursion (IsWhole t) (ts t.tree)) (l.invariant.same early) (c.in_ok-rows.ensures.whole clean) in
          l.invariant.whole early (subst (AreWhole first.trees) (sym here) (one, more));
      form = (subst (AllByRecursion (λ t. has_form t ≡ true)) here l.invariant.form).1;
    }

pub entries-requires : goal.entries-requires
entries-requires g c =
    let here = next_of c.args.tables.now c.loop-table.table-index c.table-item.result c.loop-table-test.true c.table-item.is in
    has_columns c.table-item.result (subst (AllByRecursion (λ t. has_form t ≡ true)) here c.loop-table.invariant.form).0

pub returns-clause-json : goal.returns-clause-json
returns-clause-json g c clean =
    let first = g.S.Store.view c.args.store.now in
    let none = none_after c.args.tables.now c.loop-table.table-index c.loop-table-test.false in
    sym (append-nil (map view c.loop-table.listed.items)) ∙ ap (λ ts. map view c.loop-table.listed.items ++ tables_json first.trees ts) (sym none)
    ∙ c.loop-table.invariant.json clean

pub returns-clause-whole : goal.returns-clause-whole
returns-clause-whole g c clean =
    let first = g.S.Store.view c.args.store.now in
    let none = none_after c.args.tables.now c.loop-table.table-index c.loop-table-test.false in
    c.loop-table.invariant.whole clean (subst (AreWhole first.trees) (sym none) tt)

pub returns-clause-sound : goal.returns-clause-sound
returns-clause-sound g c clean =
    let first = g.S.Store.view c.args.store.now in
    let early : IsClean first = omega (arith, c.loop-table.invariant.clean) in
    open_unless_broken first.is_open first.is_broken (g.met.S.Store.broken_if_shut c.args.store.now) (sym (c.is_broken.ensures early) ∙ c.if-is_broken.false)

pub returns-clause-same : goal.returns-clause-same
returns-clause-same g c clean = c.loop-table.invariant.same clean
