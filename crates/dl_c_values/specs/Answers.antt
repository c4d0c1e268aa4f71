-- Answers as C sees them.
use Rattle.std.specs.Prelude.{ℕ, List, [], ◌∷◌, length, Option, Some, None}
use Rattle.dl_values.specs.Key.{Key}
use Rattle.dl_desk.specs.declared.reply.LoadReply.{LoadReply}
use Rattle.dl_desk.specs.declared.reply.LoadReply.TheVariants.{Hit, Fresh}
use Rattle.dl_values.specs.declared.job.Job.{Job}
use Rattle.dl_c_values.specs.declared.codes.TheConstants.{DONE, HIT, FRESH, NO_MEMBER}
use Rattle.dl_c_values.specs.declared.answers.Loaded.{Loaded}
use Rattle.dl_c_values.specs.declared.answers.Dispatched.{Dispatched}

-- the answer to a load
abbrev pub loaded_as : LoadReply → Loaded
loaded_as (Hit c) = record { code = HIT; cell = c; batch = 0 }
loaded_as (Fresh c b) = record { code = FRESH; cell = c; batch = b }

-- the answer to a look-up of a batch's member
abbrev pub member_as : Option (Key × ℕ) → Loaded
member_as (Some m) = record { code = HIT; cell = m.1; batch = 0 }
member_as None = record { code = NO_MEMBER; cell = 0; batch = 0 }

-- the answer of a call that is refused
abbrev pub refused_as : ℕ → Loaded
refused_as code = record { code = code; cell = 0; batch = 0 }

-- the number of the first batch
abbrev pub first_of : List Job → ℕ
first_of [] = 0
first_of (j ∷ js) = j.batch

-- the answer to a dispatch: the number of the first batch that is sent, and how many are
abbrev pub sent_as : List Job → Dispatched
sent_as js = record { code = DONE; first = first_of js; count = length js }

-- the answer to a dispatch that is refused
abbrev pub none_sent : ℕ → Dispatched
none_sent code = record { code = code; first = 0; count = 0 }
