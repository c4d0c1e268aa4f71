-- Refusals as JSON.
use Rattle.std.specs.Prelude.{ℕ, List, ◌++◌, codes}
use Rattle.serde_json.specs.Data.{Data, string, object, Members, no_members, member}
use Rattle.serde_json.specs.Written.{compact_text}
use Rattle.dl_documents.specs.declared.fault.PlanFault.{PlanFault}
use Rattle.dl_documents.specs.declared.fault.PlanFault.TheVariants.{TooLarge, NotJson, Version, Top, BadCall, Shape, TooDeep, TooManySteps, Table, Limit, OutOfMemory}
use Rattle.dl_scope.specs.declared.fault.ScopeFault.{ScopeFault}
use Rattle.dl_scope.specs.declared.fault.ScopeFault.TheVariants as scope
use Rattle.dl_source.specs.declared.fault.TableFault.{TableFault}
use Rattle.dl_source.specs.declared.fault.TableFault.TheVariants as table
use Rattle.dl_values.specs.declared.fault.LimitFault.{LimitFault}
use Rattle.dl_values.specs.declared.fault.LimitFault.TheVariants as limit
use Rattle.dl_server.specs.AnswerJson.{at_step, count_tree}

-- ---- names

abbrev pub table_name : TableFault → List ℕ
table_name table.Shape = codes "Shape"
table_name table.BadKey = codes "BadKey"
table_name table.TextTooLong = codes "TextTooLong"
table_name table.NotWhole = codes "NotWhole"
table_name table.DuplicateTable = codes "DuplicateTable"
table_name table.DuplicateKey = codes "DuplicateKey"
table_name table.OutOfMemory = codes "OutOfMemory"

abbrev pub limit_name : LimitFault → List ℕ
limit_name limit.BatchLimit = codes "BatchLimit"
limit_name limit.CellLimit = codes "CellLimit"
limit_name limit.CallLimit = codes "CallLimit"

abbrev pub scope_name : ScopeFault → List ℕ
scope_name scope.NoPlans = codes "NoPlans"
scope_name scope.TooManyPlans = codes "TooManyPlans"
scope_name scope.BadWorkers = codes "BadWorkers"
scope_name (scope.Start fault) = codes "Start"
scope_name (scope.Queue fault) = codes "Queue"
scope_name (scope.Run plan fault) = codes "Run"
scope_name scope.Stopped = codes "Stopped"
scope_name (scope.Close fault) = codes "Close"
scope_name (scope.Unfetched batch) = codes "Unfetched"
scope_name scope.OutOfMemory = codes "OutOfMemory"

-- ---- refusals of documents

-- the member that has the cause of a refusal, and those behind it
abbrev pub because : List ℕ → Members → Members
because cause rest = member (codes "refused") (string cause) rest

-- the member that has the number of a plan, and those behind it
abbrev pub in_plan : ℕ → Members → Members
in_plan plan rest = member (codes "plan") (count_tree plan) rest

-- why a document is refused, with the place
abbrev pub refusal_tree : PlanFault → Data
refusal_tree TooLarge = object (because (codes "too large") no_members)
refusal_tree NotJson = object (because (codes "not json") no_members)
refusal_tree Version = object (because (codes "version") no_members)
refusal_tree Top = object (because (codes "top") no_members)
refusal_tree (BadCall n) = object (member (codes "call") (count_tree n) (because (codes "call") no_members))
refusal_tree (Shape n s) = object (in_plan n (because (codes "step") (at_step s no_members)))
refusal_tree (TooDeep n s) = object (in_plan n (because (codes "too deep") (at_step s no_members)))
refusal_tree (TooManySteps n) = object (in_plan n (because (codes "too many steps") no_members))
refusal_tree (Table f) = object (because (codes "table " ++ table_name f) no_members)
refusal_tree (Limit l) = object (because (codes "limit " ++ limit_name l) no_members)
refusal_tree OutOfMemory = object (because (codes "memory") no_members)

abbrev pub refusal_json : PlanFault → List ℕ
refusal_json fault = compact_text (refusal_tree fault)

-- what is answered to a script
abbrev pub script_json : List ℕ
script_json = compact_text (object (because (codes "script") no_members))

-- ---- plans that aren't served

abbrev pub scope_fault_json : ScopeFault → List ℕ
scope_fault_json fault = compact_text (object (member (codes "failed") (string (scope_name fault)) no_members))
