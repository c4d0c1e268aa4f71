-- What a host says of its history: each event without what it gives to cells, and its answer in numbers.
use Rattle.std.specs.Prelude.{ℕ, List, [], ◌∷◌, map, flat_map}
use Rattle.dl_values.specs.declared.job.Job.{Job}
use Rattle.dl_desk.specs.Legal.{call_of}
use Rattle.dl_desk.specs.declared.call.DeskCall.{DeskCall}
use Rattle.dl_desk.specs.declared.event.Event.{Event}
use Rattle.dl_desk.specs.declared.event.Reply.{Reply}
use Rattle.dl_desk.specs.declared.event.Reply.TheVariants.{Loaded, Many, Primed, Kept, Done, Sent}
use Rattle.dl_desk.specs.declared.reply.LoadReply.{LoadReply}
use Rattle.dl_desk.specs.declared.reply.LoadReply.TheVariants.{Hit, Fresh}
use Rattle.dl_replay.specs.declared.told.Told.{Told}

-- of a key that is loaded: whether a cell begins with it, the cell, and the batch that the load joins
abbrev pub load_numbers : LoadReply → List ℕ
load_numbers (Hit c) = 0 ∷ c ∷ 0 ∷ []
load_numbers (Fresh c b) = 1 ∷ c ∷ b ∷ []

abbrev pub batch_of : Job → ℕ
batch_of j = j.batch

-- the answer of a call in numbers
abbrev pub answer_numbers : Reply → List ℕ
answer_numbers (Loaded r) = load_numbers r
answer_numbers (Many rs) = flat_map load_numbers rs
answer_numbers (Primed c) = 1 ∷ c ∷ 0 ∷ []
answer_numbers Kept = 0 ∷ 0 ∷ 0 ∷ []
answer_numbers Done = []
answer_numbers (Sent js) = map batch_of js

-- what a host says of an event
pub record Line : Type 0 where
  pub caller : ℕ
  pub call : DeskCall
  pub answer : List ℕ

abbrev pub line_of : Event → Line
line_of e = record { caller = e.caller; call = call_of e.call; answer = answer_numbers e.reply }

abbrev pub line : DeskCall → Told → Line
line call told = record { caller = told.caller; call = call; answer = told.answer.items }

-- what the calls and what is told of each say together
abbrev pub lines : List DeskCall → List Told → List Line
lines [] ts = []
lines (c ∷ cs) [] = []
lines (c ∷ cs) (t ∷ ts) = line c t ∷ lines cs ts
