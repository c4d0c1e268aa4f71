use Rattle.std.proofs.Common.{◌≡◌, true, false, ◌++◌, ◌∷◌, [], if◌then◌else◌, map, ap, sym, ◌∙◌, bytes_eq, take}
use Rattle.std.specs.List.{list_any}
use Rattle.dl_values.specs.TableLimits.{lists}
use Rattle.dl_source.specs.NumberedTables.{table_of, tables_of}
use Rattle.dl_values.proofs.Repeats.{clashes_first, found_again, goes_on}
use Rattle.dl_source.proofs.Repeats.{lists-names, noted, was_there, was_new}
use Rattle.dl_source.proofs.WithoutNumbers.{within, is_at}
use Rattle.dl_source.proofs.table_reader.repeats_name.Goals as goal

pub loop-table-init : goal.loop-table-init
loop-table-init c = record { seen = ap (map (λ n. n.now)) c.with_hasher-names.ensures.empty; rest = clashes_first (tables_of c.args.tables.now) }

pub returns-then-not-branch : goal.returns-then-not-branch
returns-then-not-branch c =
    let l = c.loop-table in
    let tables = tables_of c.args.tables.now in
    let t = c.table-item.result in
    let lt = within c.args.tables.now l.table-index t c.loop-table-test.true c.table-item.is in
    let is = is_at c.args.tables.now l.table-index t c.loop-table-test.true c.table-item.is in
    let name = c.name.result.now in
    let there : list_any (λ k. bytes_eq name k.now) l.names.keys ≡ true = was_there _ (sym c.if-not-branch.true ∙ c.in_ok-insert.ensures.added) in
    let before : lists t.name (take l.table-index tables) ≡ true =
    ap (λ n. lists n (take l.table-index tables)) (sym c.name.ensures) ∙ sym (lists-names name l.names.keys (take l.table-index tables) l.invariant.seen)
    ∙ there in
    found_again tables l.table-index (table_of t) lt is _ l.invariant.rest before

pub loop-table-preserved : goal.loop-table-preserved
loop-table-preserved c =
    let l = c.loop-table in
    let tables = tables_of c.args.tables.now in
    let t = c.table-item.result in
    let lt = within c.args.tables.now l.table-index t c.loop-table-test.true c.table-item.is in
    let is = is_at c.args.tables.now l.table-index t c.loop-table-test.true c.table-item.is in
    let name = c.name.result in
    let new : list_any (λ k. bytes_eq name.now k.now) l.names.keys ≡ false = was_new _ (sym c.if-not-branch.false ∙ c.in_ok-insert.ensures.added) in
    let not_before : lists t.name (take l.table-index tables) ≡ false =
    ap (λ n. lists n (take l.table-index tables)) (sym c.name.ensures) ∙ sym (lists-names name.now l.names.keys (take l.table-index tables) l.invariant.seen)
    ∙ new in
    record {
      seen = ap (map (λ k. k.now)) (c.in_ok-insert.ensures.keys ∙ ap (λ b. if b then l.names.keys else l.names.keys ++ name ∷ []) new)
          ∙ noted tables l.table-index (table_of t) lt is l.names.keys name l.invariant.seen c.name.ensures;
      rest = goes_on tables l.table-index (table_of t) lt is _ l.invariant.rest not_before;
    }
