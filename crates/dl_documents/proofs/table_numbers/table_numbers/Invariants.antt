-- The numbers that were read, before those of the rest, are those of the list.
use Rattle.std.proofs.Common.{◌≡◌, ◌++◌, drop, option_map}
use Rattle.dl_documents.specs.Inside.Trees.{list_data}
use Rattle.dl_documents.specs.TableNumbers.{numbers_listed}
use Rattle.dl_documents.proofs.table_numbers.table_numbers.Given as goal

abbrev pub invariant-loop-item : goal.invariant-loop-item
invariant-loop-item l =
    option_map (λ ns. l.numbers.items ++ ns) (numbers_listed (list_data (drop l.item-index l.items))) ≡ numbers_listed (list_data l.items)
