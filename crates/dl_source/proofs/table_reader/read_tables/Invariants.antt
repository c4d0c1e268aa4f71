-- What was read so far, and then the rest of the list, is the whole list.
use Rattle.std.proofs.Common.{◌≡◌, length}
use Rattle.std.specs.Vec.Iter.{into_iter_items, into_iter_len}
use Rattle.serde_json.specs.View.{view, items_view}
use Rattle.dl_source.specs.Inside.Reading.{after, each_in, numbered_in, listed_in}
use Rattle.dl_source.proofs.table_reader.read_tables.Given as goal

abbrev pub invariant-loop-item : goal.invariant-loop-item
invariant-loop-item l = record {
  read : after l.tables.items (each_in (numbered_in l.version) (items_view (into_iter_items l.item-iterator))) ≡ listed_in l.version (view l.fn.value);
  count : into_iter_len l.item-iterator ≡ length (into_iter_items l.item-iterator);
}
