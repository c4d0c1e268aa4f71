-- The store has the trees that it had, and the tables so far, with the rest, are all.
use Rattle.std.proofs.Common.{◌≡◌, ◌≤◌, ◌++◌, map, drop, true}
use Rattle.std.specs.List.{AllByRecursion}
use Rattle.serde_json.specs.View.{view}
use Rattle.sqlite_trees.specs.View.{IsClean, doubt}
use Rattle.dl_sqlite.specs.Form.{has_form}
use Rattle.dl_sqlite.specs.Rows.{AreWhole, tables_json}
use Rattle.dl_sqlite.proofs.read.listed.Given as goal

abbrev pub invariant-loop-table : goal.invariant-loop-table
invariant-loop-table g l =
    let first = g.S.Store.view l.fn.store in
    let now = g.S.Store.view l.store in
    record {
      clean : doubt first.is_clean ≤ doubt now.is_clean;
      same : IsClean now → now.trees ≡ first.trees;
      json : IsClean now → map view l.listed.items ++ tables_json first.trees (drop l.table-index l.tables) ≡ tables_json first.trees l.tables;
      whole : IsClean now → AreWhole first.trees (drop l.table-index l.tables) → AreWhole first.trees l.tables;
      form : AllByRecursion (λ t. has_form t ≡ true) (drop l.table-index l.tables);
    }
