-- Keys and texts as compact JSON.
use Rattle.std.specs.Prelude.{ℕ, List, map}
use Rattle.serde_json.specs.Data.{string, array}
use Rattle.serde_json.specs.View.{items_of}
use Rattle.serde_json.specs.Written.{compact_text}
use Rattle.dl_values.specs.Key.{Key}
use Rattle.dl_documents.specs.Script.{key_tree}

-- a key, the list of its two texts
abbrev pub key_text : Key → List ℕ
key_text k = compact_text (key_tree k)

-- a list of keys
abbrev pub keys_text : List Key → List ℕ
keys_text ks = compact_text (array (items_of (map key_tree ks)))

-- a text in quotation marks
abbrev pub quoted_text : List ℕ → List ℕ
quoted_text text = compact_text (string text)
