use Rattle.std.proofs.Common.{◌∷◌, [], true, map, sym, ap, subst, ◌∙◌, arith}
use Rattle.std.proofs.lemmas.List.{map-append}
use Rattle.serde_json.specs.View.{view}
use Rattle.sqlite_trees.specs.View.{Advances}
use Rattle.dl_sqlite.proofs.Readings.{IsReading, begins, goes_on, ends}
use Rattle.dl_sqlite.proofs.rows.entries.Goals as goal

pub loop-init : goal.loop-init
loop-init g c =
    let t = c.args.table.now in
    let old = g.S.Store.view c.args.store.now in
    let new = g.S.Store.view c.seek.new.self in
    record {
      live = c.in_ok-seek.ensures.live;
      clean = c.in_ok-seek.ensures.quiet.clean;
      kept = λ clean. subst (λ vs. IsReading t old.trees new (map view vs)) (sym c.new-rows.ensures.items) (begins t old new (rw c.new-row.ensures at (c.in_ok-seek.ensures.ok clean)));
    }

pub loop-preserved : goal.loop-preserved
loop-preserved g c =
    let t = c.args.table.now in
    let first = g.S.Store.view c.args.store.now in
    let old = g.S.Store.view c.loop.store in
    let new = g.S.Store.view c.next.new.self in
    let v = c.in_ok-entry.field-0 in
    let pushed = ap (map view) c.in_ok-push.ensures.items ∙ map-append view c.loop.rows.items (v ∷ []) in
    record {
      live = c.in_ok-found.ensures.stay 0 c.loop.invariant.live;
      clean = omega (arith, c.in_ok-found.ensures.quiet.clean, c.loop.invariant.clean);
      kept = λ clean.
          let was = c.loop.invariant.kept (omega (arith, c.in_ok-found.ensures.quiet.clean)) in
          let moved : Advances old new 0 c.next.new.row true = rw c.if-not-found.false at (c.in_ok-found.ensures.ok clean) in
          subst (IsReading t first.trees new) (sym pushed)
          (goes_on t first.trees old new (map view c.loop.rows.items) c.next.new.row (view v) was moved c.in_ok-entry.ensures.json c.in_ok-entry.ensures.whole);
    }

pub returns-then-not-found-clause-json : goal.returns-then-not-found-clause-json
returns-then-not-found-clause-json g c clean =
    let first = g.S.Store.view c.args.store.now in
    let moved = rw c.if-not-found.true at (c.in_ok-found.ensures.ok clean) in
    (ends c.args.table.now first.trees (g.S.Store.view c.loop.store) (g.S.Store.view c.next.new.self) (map view c.loop.rows.items) c.next.new.row
    (c.loop.invariant.kept (omega (arith, c.in_ok-found.ensures.quiet.clean))) moved).0

pub returns-then-not-found-clause-whole : goal.returns-then-not-found-clause-whole
returns-then-not-found-clause-whole g c clean =
    let first = g.S.Store.view c.args.store.now in
    let moved = rw c.if-not-found.true at (c.in_ok-found.ensures.ok clean) in
    (ends c.args.table.now first.trees (g.S.Store.view c.loop.store) (g.S.Store.view c.next.new.self) (map view c.loop.rows.items) c.next.new.row
    (c.loop.invariant.kept (omega (arith, c.in_ok-found.ensures.quiet.clean))) moved).1

pub returns-then-not-found-clause-same : goal.returns-then-not-found-clause-same
returns-then-not-found-clause-same g c clean =
    let first = g.S.Store.view c.args.store.now in
    let moved = rw c.if-not-found.true at (c.in_ok-found.ensures.ok clean) in
    (ends c.args.table.now first.trees (g.S.Store.view c.loop.store) (g.S.Store.view c.next.new.self) (map view c.loop.rows.items) c.next.new.row
    (c.loop.invariant.kept (omega (arith, c.in_ok-found.ensures.quiet.clean))) moved).2
