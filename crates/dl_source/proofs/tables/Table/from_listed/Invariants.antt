-- The findings so far, each id once, and then the rest of them, still whole, are all findings.
use Rattle.std.proofs.Common.{◌≡◌, ◌++◌, false, length}
use Rattle.std.specs.List.{list_any}
use Rattle.std.specs.Vec.Iter.{into_iter_items, into_iter_len}
use Rattle.dl_values.specs.TableLimits.{repeats}
use Rattle.dl_source.specs.Faults.{is_not_whole}
use Rattle.dl_values.proofs.Repeats.{clashes}
use Rattle.dl_source.proofs.tables.Table.from_listed.Given as goal

abbrev pub invariant-loop-listed : goal.invariant-loop-listed
invariant-loop-listed l = record {
  order : l.table ++ into_iter_items l.listed-iterator ≡ l.fn.findings.items;
  ids : clashes l.table (into_iter_items l.listed-iterator) ≡ repeats l.fn.findings.items;
  whole : list_any (λ e. is_not_whole e.1) (into_iter_items l.listed-iterator) ≡ false;
  count : into_iter_len l.listed-iterator ≡ length (into_iter_items l.listed-iterator);
}
