-- How one desk answers the calls of a script, one after another.
use Rattle.std.specs.Prelude.{◌≡◌, List, [], Result}
use Rattle.dl_values.specs.Limits.{rules_by}
use Rattle.dl_desk.specs.BatchBook.{StandsFor}
use Rattle.dl_desk.specs.Calls.{answers, after_all}
use Rattle.dl_desk.specs.History.{Atom}
use Rattle.dl_desk.specs.declared.event.Reply.{Reply}
use Rattle.dl_desk.specs.declared.fault.DeskFault.{DeskFault}
use Rattle.dl_documents.specs.declared.input.Script.{Script}
use Rattle.dl_documents.specs.declared.script_run.ScriptRun.{ScriptRun}

-- the answers of the calls, and the history that they leave
abbrev pub script_answers : Script → List (Result Reply DeskFault)
script_answers s = answers (rules_by s.limits s.table_limits) [] s.calls

abbrev pub script_history : Script → List Atom
script_history s = after_all (rules_by s.limits s.table_limits) [] s.calls

-- the answers are those of the script's calls, and the desk has their history
pub record IsRunOf (s : Script) (run : ScriptRun) : Type 0 where
  pub answers : run.answers.items ≡ script_answers s
  pub stands : StandsFor run.desk.book (script_history s)
