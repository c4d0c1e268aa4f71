-- How many cells a call begins, told by its reply.
use Rattle.std.specs.Prelude.{ℕ, List, sum_by}
use Rattle.dl_desk.specs.declared.reply.LoadReply.{LoadReply}
use Rattle.dl_desk.specs.declared.reply.LoadReply.TheVariants.{Hit, Fresh}
use Rattle.dl_desk.specs.declared.event.Reply.{Reply}
use Rattle.dl_desk.specs.declared.event.Reply.TheVariants.{Loaded, Many, Primed}

-- a fresh load begins a cell, and a load of a key that is held begins none
abbrev pub begun_by : LoadReply → ℕ
begun_by (Hit c) = 0
begun_by (Fresh c b) = 1

-- how many cells the loads with these replies begin
abbrev pub cells_begun : List LoadReply → ℕ
cells_begun replies = sum_by begun_by replies

-- a call begins those that its reply says
abbrev pub begun_in : Reply → ℕ
begun_in (Loaded r) = begun_by r
begun_in (Many rs) = cells_begun rs
begun_in (Primed c) = 1
begun_in reply = 0
