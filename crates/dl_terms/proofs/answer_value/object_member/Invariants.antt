-- The values so far have other names.
use Rattle.std.proofs.Common.{◌≡◌, drop}
use Rattle.serde_json.specs.Find.{get_member}
use Rattle.dl_terms.specs.Named.{zipped}
use Rattle.dl_terms.proofs.answer_value.object_member.Given as goal

abbrev pub invariant-loop-place : goal.invariant-loop-place
invariant-loop-place l =
    get_member l.name (zipped l.names l.value-items) ≡ get_member l.name (zipped (drop l.place l.names) (drop l.place l.value-items))
