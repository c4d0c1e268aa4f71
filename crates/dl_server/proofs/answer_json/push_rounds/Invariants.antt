-- The text so far, with that of the counts that are left, is the text of all counts.
use Rattle.std.proofs.Common.{◌≡◌, ◌++◌, Bool, drop, map, string_bytes}
use Rattle.serde_json.specs.View.{items_of}
use Rattle.serde_json.specs.Written.{comma_if, compact_text, items_text}
use Rattle.dl_server.specs.AnswerJson.{count_tree, rounds_tree}
use Rattle.dl_server.proofs.answer_json.push_rounds.Given as goal

abbrev pub invariant-loop-count : goal.invariant-loop-count
invariant-loop-count l =
    (later : Bool) × (l.before ≡ comma_if later)
    × (string_bytes l.out ++ items_text later (items_of (map count_tree (drop l.count-index l.rounds)))
    ≡ string_bytes l.fn.out ++ compact_text (rounds_tree l.rounds))
