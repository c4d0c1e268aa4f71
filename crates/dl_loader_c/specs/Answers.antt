-- Answers of a loader as C sees them.
use Rattle.std.specs.Prelude.{ℕ, ◌+◌, List, [], ◌∷◌}
use Rattle.dl_desk.specs.declared.reply.LoadReply.{LoadReply}
use Rattle.dl_desk.specs.declared.reply.LoadReply.TheVariants.{Hit, Fresh}
use Rattle.dl_loader.specs.declared.reply.PrimeReply.{PrimeReply}
use Rattle.dl_loader.specs.declared.reply.PrimeReply.TheVariants.{Primed, Kept}
use Rattle.dl_c_values.specs.declared.codes.TheConstants.{HIT, FRESH}
use Rattle.dl_c_values.specs.declared.answers.Loaded.{Loaded}
use Rattle.dl_loader_c.specs.declared.answers.LoadTicket.{LoadTicket}

-- the answer to a load, with the number of its ticket
abbrev pub ticket_as : ℕ → LoadReply → LoadTicket
ticket_as number (Hit c) = record { code = HIT; cell = c; batch = 0; ticket = number }
ticket_as number (Fresh c b) = record { code = FRESH; cell = c; batch = b; ticket = number }

-- the answers to loads, whose tickets are numbered from the first on
abbrev pub tickets_as : ℕ → List LoadReply → List LoadTicket
tickets_as first [] = []
tickets_as first (r ∷ rs) = ticket_as first r ∷ tickets_as (first + 1) rs

-- the answer to a load that is refused
abbrev pub no_ticket : ℕ → LoadTicket
no_ticket code = record { code = code; cell = 0; batch = 0; ticket = 0 }

-- the answer to a prime
abbrev pub primed_as : PrimeReply → Loaded
primed_as (Primed c shown) = record { code = FRESH; cell = c; batch = 0 }
primed_as Kept = record { code = HIT; cell = 0; batch = 0 }
