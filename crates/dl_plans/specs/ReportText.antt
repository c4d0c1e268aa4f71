-- The text of a report.
use Rattle.std.specs.Prelude.{ℕ, zero, suc, ◌==◌, ◌&&◌, List, [], ◌∷◌, ◌++◌, length, Bool, codes, decimal, flat_map, Option, Some, None, if◌then◌else◌}
use Rattle.serde_json.specs.Written.{compact_text}
use Rattle.dl_desk.specs.Events.{atoms}
use Rattle.dl_desk.specs.History.{Atom, begun, end_of}
use Rattle.dl_values.specs.Key.{Key}
use Rattle.dl_values.specs.declared.outcome.BatchFault.{BatchFault}
use Rattle.dl_values.specs.declared.outcome.BatchFault.TheVariants.{Source, Memory, Unsent}
use Rattle.dl_desk.specs.declared.reply.End.{End}
use Rattle.dl_desk.specs.declared.reply.End.TheVariants.{Settled, Failed}
use Rattle.dl_desk.specs.Legal.{keys_of}
use Rattle.dl_history.specs.History.{past}
use Rattle.dl_picture.specs.JsonText.{key_text, keys_text, quoted_text}
use Rattle.dl_plans.specs.ReplyLines.{text_line}
use Rattle.dl_scope.specs.Report.{Report}
use Rattle.dl_haxl.specs.declared.step_answers.StepAnswer.{StepAnswer}
use Rattle.dl_terms.specs.declared.answer.Answer.{Answer}
use Rattle.dl_terms.specs.declared.answer.Answer.TheVariants.{Value, Fault}
use Rattle.dl_terms.specs.declared.answer.EvalFault.{EvalFault}
use Rattle.dl_terms.specs.declared.answer.EvalFault.TheVariants.{Key as KeyFailed, Batch, NoField, NotAKey, NotAList, TooMany, NoItem}

-- ---- answers

-- why a batch failed: the text with which the source broke, or that the batch was given up
abbrev pub batch_fault_text : BatchFault → List ℕ
batch_fault_text (Source text) = quoted_text text
batch_fault_text Memory = codes "memory"
batch_fault_text Unsent = codes "unsent"

-- why a term has no value
abbrev pub fault_text : EvalFault → List ℕ
fault_text (KeyFailed k text) = codes "key " ++ key_text k ++ codes " " ++ quoted_text text
fault_text (Batch k fault) = codes "batch " ++ key_text k ++ codes " " ++ batch_fault_text fault
fault_text NoField = codes "NoField"
fault_text NotAKey = codes "NotAKey"
fault_text NotAList = codes "NotAList"
fault_text TooMany = codes "TooMany"
fault_text NoItem = codes "NoItem"

abbrev pub answer_text : Answer → List ℕ
answer_text (Value d) = codes "ok " ++ compact_text d
answer_text (Fault fault) = codes "fault " ++ fault_text fault

-- the line of what a step of the plan answers
abbrev pub answer_line : ℕ → StepAnswer → List ℕ
answer_line plan given = text_line (decimal plan ++ codes " " ++ decimal given.step ++ codes " " ++ answer_text given.answer)

-- the lines of the answers of plans, the first of which has this number
abbrev pub answers_text : ℕ → List (List StepAnswer) → List ℕ
answers_text plan [] = []
answers_text plan (answers ∷ rest) = flat_map (answer_line plan) answers ++ answers_text (suc plan) rest

-- ---- batches

abbrev pub end_text : Option End → List ℕ
end_text (Some Settled) = codes "settled"
end_text (Some Failed) = codes "failed"
end_text None = []

-- the line of a batch with these keys, which ended so
abbrev pub batch_line : ℕ → List Key → Option End → List ℕ
batch_line b keys end = text_line (codes "batch " ++ decimal b ++ codes " " ++ keys_text keys ++ codes " " ++ end_text end)

-- the lines of this many batches of a history, from the first on
abbrev pub batch_lines : List Atom → ℕ → List ℕ
batch_lines history zero = []
batch_lines history (suc n) = batch_lines history n ++ batch_line n (keys_of history n) (end_of history n)

-- the lines of all batches
abbrev pub batches_text : List Atom → List ℕ
batches_text history = batch_lines history (begun history)

-- the line of the rounds of the first plan, and those of all batches
abbrev pub rounds_text : List ℕ → List Atom → List ℕ
rounds_text [] history = []
rounds_text (rounds ∷ rest) history = text_line (codes "rounds " ++ decimal rounds) ++ batches_text history

-- ---- reports

-- The text of a report: a line for each answer, in the order of plans and steps. If you want batches and there is
-- exactly one plan, its rounds and all batches follow.
abbrev pub report_text : Report → Bool → List ℕ
report_text r batches = answers_text 0 r.answers ++ (if batches && length r.answers == 1 then rounds_text r.rounds (atoms (past r.history.events)) else [])
