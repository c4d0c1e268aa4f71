-- The text that a script gives: for each of its calls, the lines of its answer.
use Rattle.std.specs.Prelude.{ℕ, List, Result, Ok, Err, flat_map}
use Rattle.dl_desk.specs.declared.event.Reply.{Reply}
use Rattle.dl_desk.specs.declared.event.Reply.TheVariants.{Loaded, Many, Primed, Kept, Done, Sent}
use Rattle.dl_desk.specs.declared.fault.DeskFault.{DeskFault}
use Rattle.dl_documents.specs.ScriptRun.{script_answers}
use Rattle.dl_documents.specs.declared.input.Script.{Script}
use Rattle.dl_plans.specs.ReplyLines.{done_line, load_line, many_lines, primed_line, kept_line, sent_lines, refused_line}

-- the lines of a reply
abbrev pub reply_lines : Reply → List ℕ
reply_lines (Loaded r) = load_line r
reply_lines (Many rs) = many_lines rs
reply_lines (Primed cell) = primed_line cell
reply_lines Kept = kept_line
reply_lines Done = done_line
reply_lines (Sent jobs) = sent_lines jobs

-- the lines of a call's answer: those of its reply or of its refusal
abbrev pub call_lines : Result Reply DeskFault → List ℕ
call_lines (Ok reply) = reply_lines reply
call_lines (Err fault) = refused_line fault

-- the text that a script gives
abbrev pub script_text : Script → List ℕ
script_text s = flat_map call_lines (script_answers s)
