-- The text so far, with that of the plans that are left, is that of all plans.
use Rattle.std.proofs.Common.{◌≡◌, ◌++◌, Bool, false, codes, drop, map, string_bytes}
use Rattle.serde_json.specs.View.{items_of}
use Rattle.serde_json.specs.Written.{comma_if, items_text}
use Rattle.dl_server.proofs.ListTexts.{plan_tree}
use Rattle.dl_server.proofs.answer_json.report_json.Given as goal

abbrev pub invariant-loop-answers : goal.invariant-loop-answers
invariant-loop-answers l =
    (later : Bool) × (l.before ≡ comma_if later)
    × (string_bytes l.out ++ items_text later (items_of (map plan_tree (drop l.answers-index l.plans)))
    ≡ codes "{\"answers\":[" ++ items_text false (items_of (map plan_tree l.plans)))
