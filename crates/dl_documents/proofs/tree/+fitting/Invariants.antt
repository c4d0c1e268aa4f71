-- The rest fits where all do.
use Rattle.std.proofs.Common.{◌≡◌, drop, is_some}
use Rattle.json.specs.Value.{items_view, members_view}
use Rattle.serde_json.specs.Data.{no_members}
use Rattle.serde_json.specs.Read.{of_items, of_members}
use Rattle.dl_documents.proofs.tree.+fitting.Given as goal

abbrev pub invariant-items_fit-loop-item : goal.invariant-items_fit-loop-item
invariant-items_fit-loop-item l = is_some (of_items (items_view (drop l.item-index l.items))) ≡ is_some (of_items (items_view l.items))

abbrev pub invariant-members_fit-loop-member : goal.invariant-members_fit-loop-member
invariant-members_fit-loop-member l =
    is_some (of_members (members_view (drop l.member-index l.members)) no_members) ≡ is_some (of_members (members_view l.members) no_members)
