-- The items are the trees of the keys so far.
use Rattle.std.proofs.Common.{◌≡◌, map, take}
use Rattle.serde_json.specs.View.{view}
use Rattle.dl_documents.specs.Script.{key_tree}
use Rattle.dl_picture.proofs.json_text.keys_text.Given as goal

abbrev pub invariant-loop-key : goal.invariant-loop-key
invariant-loop-key l = map view l.items.items ≡ map key_tree (take l.key-index l.keys)
