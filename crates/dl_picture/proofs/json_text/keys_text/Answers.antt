use Rattle.std.proofs.Common.{◌≡◌, ◌∙◌, ap, map, string_bytes, arith}
use Rattle.std.proofs.lemmas.List.{take_all}
use Rattle.serde_json.proofs.Views.{view-Array}
use Rattle.serde_json.specs.Data.{array}
use Rattle.serde_json.specs.View.{items_of, view}
use Rattle.dl_documents.specs.Script.{key_tree}
use Rattle.dl_picture.proofs.KeyTexts.{keys_written}
use Rattle.dl_picture.proofs.json_text.keys_text.Goals as goal

pub returns : goal.returns
returns c =
    let keys = c.args.keys.now in
    let all : map view c.loop-key.items.items ≡ map key_tree keys =
    c.loop-key.invariant ∙ ap (map key_tree) (take_all c.loop-key.key-index keys (omega (arith, c.loop-key-test.false))) in
    keys_written string_bytes keys _ c.to_string.result (view-Array c.loop-key.items ∙ ap (λ ds. array (items_of ds)) all) c.to_string.ensures.text
