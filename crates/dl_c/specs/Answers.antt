-- Answers of a desk as C sees them.
use Rattle.std.specs.Prelude.{ℕ, Option, Some, None}
use Rattle.dl_desk.specs.declared.reply.DeskPrime.{DeskPrime}
use Rattle.dl_desk.specs.declared.reply.DeskPrime.TheVariants.{Primed, Kept}
use Rattle.dl_c_values.specs.declared.codes.TheConstants.{HIT, FRESH}
use Rattle.dl_c_values.specs.declared.answers.Loaded.{Loaded}

-- the answer to a prime
abbrev pub primed_as : DeskPrime → Loaded
primed_as (Primed c) = record { code = FRESH; cell = c; batch = 0 }
primed_as Kept = record { code = HIT; cell = 0; batch = 0 }

-- the answer to a look-up of the cell that is held
abbrev pub held_as : Option ℕ → Loaded
held_as (Some c) = record { code = HIT; cell = c; batch = 0 }
held_as None = record { code = FRESH; cell = 0; batch = 0 }
