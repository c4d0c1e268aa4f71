-- No member from here on has the name.
use Rattle.std.proofs.Common.{◌≡◌, ◌≤◌, length, take}
use Rattle.serde_json.specs.Find.{get_member}
use Rattle.dl_documents.specs.Inside.Trees.{object_data}
use Rattle.dl_documents.proofs.member.last_place.Given as goal

abbrev pub invariant-loop-left : goal.invariant-loop-left
invariant-loop-left l = record {
  within : l.left ≤ length l.members;
  same : get_member l.name (object_data l.members) ≡ get_member l.name (object_data (take l.left l.members));
}

abbrev pub decreases-loop-left : goal.decreases-loop-left
decreases-loop-left l = l.left
