-- The tables so far, each name and each id once, and then the rest of them, still whole, are all tables.
use Rattle.std.proofs.Common.{◌≡◌, ◌++◌, false, length}
use Rattle.std.specs.Vec.Iter.{into_iter_items, into_iter_len}
use Rattle.dl_source.specs.Faults.{has_other_number, has_repeated_key}
use Rattle.dl_source.specs.NumberedTables.{tables_of}
use Rattle.dl_values.proofs.Repeats.{clashes}
use Rattle.dl_source.proofs.tables.Tables.from_tested.Given as goal

abbrev pub invariant-loop-table : goal.invariant-loop-table
invariant-loop-table l =
    let rest = tables_of (into_iter_items l.table-iterator) in
    record {
      order : l.tables ++ rest ≡ tables_of l.fn.listed.items;
      names : clashes l.tables rest ≡ false;
      whole : has_other_number rest ≡ false;
      ids : has_repeated_key rest ≡ has_repeated_key (tables_of l.fn.listed.items);
      count : into_iter_len l.table-iterator ≡ length (into_iter_items l.table-iterator);
    }
