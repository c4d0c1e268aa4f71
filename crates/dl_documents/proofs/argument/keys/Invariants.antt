-- The keys that were read, before those of the rest, are those of the list.
use Rattle.std.proofs.Common.{◌≡◌, ◌++◌, drop, option_map}
use Rattle.dl_documents.specs.Inside.Trees.{list_data}
use Rattle.dl_documents.specs.Reading.{keys_listed}
use Rattle.dl_documents.proofs.argument.keys.Given as goal

abbrev pub invariant-loop-item : goal.invariant-loop-item
invariant-loop-item l = option_map (λ ks. l.keys.items ++ ks) (keys_listed (list_data (drop l.item-index l.items))) ≡ keys_listed (list_data l.items)
