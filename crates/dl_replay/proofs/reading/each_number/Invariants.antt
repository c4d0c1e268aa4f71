-- The numbers that were read, before those of the rest, are those of the list.
use Rattle.std.proofs.Common.{◌≡◌, ◌++◌, drop, option_map}
use Rattle.serde_json.specs.View.{items_view}
use Rattle.dl_replay.specs.Reading.{numbers_listed}
use Rattle.dl_replay.proofs.reading.each_number.Given as goal

abbrev pub invariant-loop-item : goal.invariant-loop-item
invariant-loop-item l =
    option_map (λ ns. l.numbers.items ++ ns) (numbers_listed (items_view (drop l.item-index l.items))) ≡ numbers_listed (items_view l.items)
