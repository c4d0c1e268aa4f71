-- The names so far, each once.
use Rattle.std.proofs.Common.{◌≡◌, map, take, drop}
use Rattle.dl_values.specs.TableLimits.{repeats}
use Rattle.dl_source.specs.NumberedTables.{tables_of}
use Rattle.dl_values.proofs.Repeats.{clashes}
use Rattle.dl_source.proofs.table_reader.repeats_name.Given as goal

abbrev pub invariant-loop-table : goal.invariant-loop-table
invariant-loop-table l =
    let tables = tables_of l.tables in
    record {
      seen : map (λ n. n.now) l.names.keys ≡ map (λ t. t.0) (take l.table-index tables);
      rest : clashes (take l.table-index tables) (drop l.table-index tables) ≡ repeats tables;
    }
