-- What was read, before what is told in the rest, is what is told in the list.
use Rattle.std.proofs.Common.{◌≡◌, ◌++◌, drop, map, option_map}
use Rattle.serde_json.specs.View.{items_view}
use Rattle.dl_replay.specs.Reading.{told_listed, told_view}
use Rattle.dl_replay.proofs.reading.told_each.Given as goal

abbrev pub invariant-loop-item : goal.invariant-loop-item
invariant-loop-item l =
    option_map (λ ts. map told_view l.all.items ++ ts) (told_listed (items_view (drop l.item-index l.items))) ≡ told_listed (items_view l.items)
