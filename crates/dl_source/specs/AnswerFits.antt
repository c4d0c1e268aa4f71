-- The answer of tables has as many outcomes as there are keys, or breaks.
use Rattle.std.specs.Prelude.{◌≡◌, ℕ, List, Option, Some, None, length}
use Rattle.std.proofs.lemmas.List.{length-map}
use Rattle.dl_values.specs.Answering.{IsFor}
use Rattle.dl_values.specs.Key.{Key}
use Rattle.dl_values.specs.declared.outcome.Outcome.{Outcome}
use Rattle.dl_source.specs.Tables.{Tables}
use Rattle.dl_source.specs.Answer.{answer_of, first_break, outcomes_of, outcome_of, found, unless}

pub unless_fits : (keys : List Key) (broken : Option (List ℕ)) (outcomes : List Outcome) → length outcomes ≡ length keys → IsFor keys (unless broken outcomes)
unless_fits keys None outcomes same = same
unless_fits keys (Some t) outcomes same = tt

pub answer_fits : (tables : Tables) (keys : List Key) → IsFor keys (answer_of tables keys)
answer_fits tables keys = unless_fits keys (first_break tables keys) (outcomes_of tables keys) (length-map keys (λ k. outcome_of (found tables k)))
