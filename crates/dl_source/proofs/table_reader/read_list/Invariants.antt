-- What was read so far, and then the rest of the list, is the whole list.
use Rattle.std.proofs.Common.{◌≡◌, length}
use Rattle.std.specs.Vec.Iter.{into_iter_items, into_iter_len}
use Rattle.serde_json.specs.View.{view, items_view}
use Rattle.dl_source.specs.Inside.Findings.{finding_of}
use Rattle.dl_source.specs.Inside.Reading.{after, each_in, finding_in, list_in}
use Rattle.dl_source.proofs.table_reader.read_list.Given as goal

abbrev pub invariant-loop-pair : goal.invariant-loop-pair
invariant-loop-pair l = record {
  read : after l.findings.items (each_in (finding_in (finding_of l.kind)) (items_view (into_iter_items l.pair-iterator)))
      ≡ after l.fn.findings.items (list_in (finding_in (finding_of l.kind)) (view l.fn.list));
  count : into_iter_len l.pair-iterator ≡ length (into_iter_items l.pair-iterator);
}
