use Rattle.std.proofs.Common.{◌≡◌, map, sym, ap, subst, ◌∙◌, arith}
use Rattle.serde_json.specs.Data.{array}
use Rattle.serde_json.specs.View.{view, items_of}
use Rattle.serde_json.proofs.Views.{view-Array}
use Rattle.sqlite.specs.Effect.{Database}
use Rattle.sqlite_schema.specs.declared.schema.Schema.{Schema}
use Rattle.sqlite_trees.specs.Tree.{Trees}
use Rattle.sqlite_trees.specs.View.{IsClean}
use Rattle.dl_source.specs.Spelling.{Spells}
use Rattle.dl_sqlite.specs.Form.{IsReadable, own_tables}
use Rattle.dl_sqlite.specs.Rows.{AreWhole, tables_json}
use Rattle.dl_sqlite.proofs.read.read_tables.Goals as goal

pub returns-in-Ok-clause-rows : goal.returns-in-Ok-clause-rows
returns-in-Ok-clause-rows g c clean =
    let conn = c.args.conn in
    let first = g.S.Store.view conn.store in
    let undone = c.into_store-store.ensures.undone in
    let now = g.S.Store.view c.into_store-store.result in
    let early : IsClean now = omega (arith, c.listed.ensures.clean) in
    let opened = c.in_ok-tables.ensures.sound clean in
    let settled = c.is_autocommit.ensures.settled c.if-not-is_autocommit.false ((undone.kept early).was_open opened) in
    let trees : now.trees ≡ first.trees = (undone.undone opened).0 ∙ sym (ap (λ (d : Database). d.trees) settled) in
    let given : c.as_slice.result.now ≡ own_tables conn.schema.tables =
    c.as_slice.ensures.value ∙ c.in_ok-own.ensures.tables ∙ ap (λ (s : Schema). own_tables s.tables) c.schema.ensures.value in
    let json : map view c.in_ok-tables.tables.items ≡ tables_json first.trees (own_tables conn.schema.tables) =
    c.in_ok-tables.ensures.json clean ∙ ap (λ (ts : Trees). tables_json ts c.as_slice.result.now) trees ∙ ap (tables_json first.trees) given in
    record {
      form = subst IsReadable c.schema.ensures.value c.in_ok-own.ensures.form;
      values = subst (AreWhole first.trees) given (subst (λ (ts : Trees). AreWhole ts c.as_slice.result.now) trees (c.in_ok-tables.ensures.whole clean));
      spelled = subst (λ d. Spells d c.in-Ok.tables) (view-Array c.in_ok-tables.tables ∙ ap (λ ds. array (items_of ds)) json) c.in-Ok.ensures.ok;
    }

pub returns-in-Ok-clause-store : goal.returns-in-Ok-clause-store
returns-in-Ok-clause-store g c clean =
    let undone = c.into_store-store.ensures.undone in
    let early : IsClean (g.S.Store.view c.into_store-store.result) = omega (arith, c.listed.ensures.clean) in
    let opened = c.in_ok-tables.ensures.sound clean in
    let settled = c.is_autocommit.ensures.settled c.if-not-is_autocommit.false ((undone.kept early).was_open opened) in
    c.in_ok-tables.ensures.same clean ∙ (undone.undone opened).0 ∙ sym (ap (λ (d : Database). d.trees) settled)
