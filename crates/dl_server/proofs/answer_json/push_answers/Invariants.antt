-- The text so far, with that of the answers that are left, is the text of all answers.
use Rattle.std.proofs.Common.{◌≡◌, ◌++◌, Bool, drop, map, string_bytes}
use Rattle.serde_json.specs.View.{items_of}
use Rattle.serde_json.specs.Written.{comma_if, compact_text, items_text}
use Rattle.dl_server.specs.AnswerJson.{answer_tree, answers_tree}
use Rattle.dl_server.proofs.answer_json.push_answers.Given as goal

abbrev pub invariant-loop-given : goal.invariant-loop-given
invariant-loop-given l =
    (later : Bool) × (l.before ≡ comma_if later)
    × (string_bytes l.out ++ items_text later (items_of (map answer_tree (drop l.given-index l.answers)))
    ≡ string_bytes l.fn.out ++ compact_text (answers_tree l.answers))
