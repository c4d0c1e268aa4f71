-- The numbers of a script.
use Rattle.std.specs.Prelude.{List, [], Result, Ok, Err, flat_map}
use Rattle.dl_desk.specs.declared.event.Reply.{Reply}
use Rattle.dl_desk.specs.declared.fault.DeskFault.{DeskFault}
use Rattle.dl_desk.specs.declared.reply.LoadReply.{LoadReply}
use Rattle.dl_documents.specs.ScriptRun.{script_answers, script_history}
use Rattle.dl_documents.specs.declared.input.Script.{Script}
use Rattle.dl_picture.specs.Numbers.{AreBatchNumbers, AreLoadNumbers, replies_in}
use Rattle.dl_picture.specs.declared.numbers.HistoryNumbers.{HistoryNumbers}

-- the replies to the loads of a call that was answered: a refused call makes none
abbrev pub answer_replies : Result Reply DeskFault → List LoadReply
answer_replies (Ok reply) = replies_in reply
answer_replies (Err fault) = []

-- the numbers of a script: of all its loads, and of its batches, sent or not
pub record AreScriptNumbers (s : Script) (n : HistoryNumbers) : Type 0 where
  pub loads : AreLoadNumbers (flat_map answer_replies (script_answers s)) n.loads
  pub batches : AreBatchNumbers (script_history s) n.batches
