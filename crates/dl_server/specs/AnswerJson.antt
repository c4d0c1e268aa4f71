-- A report as JSON.
use Rattle.std.specs.Prelude.{ℕ, List, codes, map}
use Rattle.serde_json.specs.Data.{Data, unsigned, number, string, array, object, Members, no_members, member}
use Rattle.serde_json.specs.View.{items_of}
use Rattle.serde_json.specs.Written.{compact_text}
use Rattle.dl_values.specs.declared.outcome.BatchFault.{BatchFault}
use Rattle.dl_values.specs.declared.outcome.BatchFault.TheVariants.{Source, Memory, Unsent}
use Rattle.dl_documents.specs.Script.{key_tree}
use Rattle.dl_haxl.specs.declared.step_answers.StepAnswer.{StepAnswer}
use Rattle.dl_scope.specs.Report.{Report}
use Rattle.dl_terms.specs.declared.answer.Answer.{Answer}
use Rattle.dl_terms.specs.declared.answer.Answer.TheVariants.{Value, Fault}
use Rattle.dl_terms.specs.declared.answer.EvalFault.{EvalFault}
use Rattle.dl_terms.specs.declared.answer.EvalFault.TheVariants.{Key as KeyFailed, Batch, NoField, NotAKey, NotAList, TooMany, NoItem}

-- a number that counts
abbrev pub count_tree : ℕ → Data
count_tree n = number (unsigned n)

-- the member that has the number of a step, and those behind it
abbrev pub at_step : ℕ → Members → Members
at_step step rest = member (codes "step") (count_tree step) rest

-- ---- faults

-- an object that says which fault it is, with these members
abbrev pub named_fault : List ℕ → Members → Data
named_fault name rest = object (member (codes "fault") (string name) rest)

-- why a batch failed: the text with which the source broke, or why the batch was given up
abbrev pub batch_members : BatchFault → Members
batch_members (Source text) = member (codes "text") (string text) no_members
batch_members Memory = member (codes "unfetched") (string (codes "memory")) no_members
batch_members Unsent = member (codes "unfetched") (string (codes "unsent")) no_members

-- why the term of a step has no value
abbrev pub fault_tree : EvalFault → ℕ → Data
fault_tree (KeyFailed k text) step =
    named_fault (codes "key") (member (codes "key") (key_tree k) (at_step step (member (codes "text") (string text) no_members)))
fault_tree (Batch k fault) step = named_fault (codes "batch") (member (codes "key") (key_tree k) (at_step step (batch_members fault)))
fault_tree NoField step = named_fault (codes "NoField") (at_step step no_members)
fault_tree NotAKey step = named_fault (codes "NotAKey") (at_step step no_members)
fault_tree NotAList step = named_fault (codes "NotAList") (at_step step no_members)
fault_tree TooMany step = named_fault (codes "TooMany") (at_step step no_members)
fault_tree NoItem step = named_fault (codes "NoItem") (at_step step no_members)

-- ---- reports

abbrev pub tree_at : Answer → ℕ → Data
tree_at (Value d) step = object (member (codes "ok") d (at_step step no_members))
tree_at (Fault fault) step = fault_tree fault step

-- what the term of a step answers
abbrev pub answer_tree : StepAnswer → Data
answer_tree given = tree_at given.answer given.step

-- what the terms of a plan answer
abbrev pub answers_tree : List StepAnswer → Data
answers_tree answers = array (items_of (map answer_tree answers))

-- how many rounds plans took
abbrev pub rounds_tree : List ℕ → Data
rounds_tree rounds = array (items_of (map count_tree rounds))

-- a report: for each plan what its terms answer, and how many rounds they took
abbrev pub report_tree : Report → Data
report_tree r =
    object (member (codes "answers") (array (items_of (map answers_tree r.answers))) (member (codes "rounds") (rounds_tree r.rounds) no_members))

-- the text of a report
abbrev pub report_json : Report → List ℕ
report_json r = compact_text (report_tree r)
