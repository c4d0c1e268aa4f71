use Rattle.std.proofs.Common.{◌≤◌, map}
use Rattle.std.specs.Prelude.{IsSome}
use Rattle.serde_json.specs.View.{view}
use Rattle.sqlite_trees.specs.View.{IsClean, doubt}
use Rattle.dl_sqlite.proofs.Readings.{IsReading}
use Rattle.dl_sqlite.proofs.rows.entries.Given as goal

abbrev pub invariant-loop : goal.invariant-loop
invariant-loop g l = record {
  live : IsSome ((g.S.Store.view l.store).cursors 0);
  clean : doubt (g.S.Store.view l.fn.store).is_clean ≤ doubt (g.S.Store.view l.store).is_clean;
  kept : IsClean (g.S.Store.view l.store) → IsReading l.table (g.S.Store.view l.fn.store).trees (g.S.Store.view l.store) (map view l.rows.items);
}
