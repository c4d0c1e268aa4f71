-- The lines that answer a call.
use Rattle.std.specs.Prelude.{ℕ, List, [], ◌∷◌, ◌++◌, length, codes, decimal, flat_map}
use Rattle.dl_values.specs.Key.{Key}
use Rattle.dl_desk.specs.declared.fault.DeskFault.{DeskFault}
use Rattle.dl_desk.specs.declared.fault.DeskFault.TheVariants.{NoBatch, NotSent, SettledBefore, CellsFull, OutOfMemory}
use Rattle.dl_values.specs.declared.job.Job.{Job}
use Rattle.dl_desk.specs.declared.reply.LoadReply.{LoadReply}
use Rattle.dl_desk.specs.declared.reply.LoadReply.TheVariants.{Hit, Fresh}
use Rattle.dl_picture.specs.JsonText.{key_text}

-- a text with the line feed that ends it
abbrev pub text_line : List ℕ → List ℕ
text_line text = text ++ 10 ∷ []

-- the line of a call whose answer says nothing
abbrev pub done_line : List ℕ
done_line = text_line (codes "ok")

abbrev pub load_line : LoadReply → List ℕ
load_line (Hit cell) = text_line (codes "hit " ++ decimal cell)
load_line (Fresh cell batch) = text_line (codes "fresh " ++ decimal cell ++ codes " " ++ decimal batch)

abbrev pub many_lines : List LoadReply → List ℕ
many_lines replies = text_line (codes "many " ++ decimal (length replies)) ++ flat_map load_line replies

abbrev pub primed_line : ℕ → List ℕ
primed_line cell = text_line (codes "primed " ++ decimal cell)

abbrev pub kept_line : List ℕ
kept_line = text_line (codes "kept")

-- a space and a key
abbrev pub next_key : Key → List ℕ
next_key k = codes " " ++ key_text k

abbrev pub job_line : Job → List ℕ
job_line j = text_line (codes "job " ++ decimal j.batch ++ flat_map next_key j.keys)

abbrev pub sent_lines : List Job → List ℕ
sent_lines jobs = text_line (codes "sent " ++ decimal (length jobs)) ++ flat_map job_line jobs

-- out of memory has no line: it ends the run
abbrev pub refused_line : DeskFault → List ℕ
refused_line NoBatch = text_line (codes "refused NoBatch")
refused_line NotSent = text_line (codes "refused NotSent")
refused_line SettledBefore = text_line (codes "refused SettledBefore")
refused_line (CellsFull limit) = text_line (codes "refused CellsFull " ++ decimal limit)
refused_line OutOfMemory = []
