-- What tables answer.
use Rattle.std.specs.Prelude.{ℕ, List, [], ◌∷◌, map, codes, Option, Some, None, Result, Ok, Err, bytes_eq, ok_or}
use Rattle.std.specs.Option.{option_or}
use Rattle.std.specs.Map.{lookup}
use Rattle.dl_values.specs.Key.{Key}
use Rattle.dl_values.specs.declared.outcome.Outcome.{Outcome}
use Rattle.dl_values.specs.declared.outcome.Outcome.TheVariants.{Value, KeyError}
use Rattle.dl_source.specs.Tables.{Table, Tables}
use Rattle.dl_values.specs.declared.outcome.BatchAnswer.{BatchAnswer}
use Rattle.dl_values.specs.declared.outcome.BatchAnswer.TheVariants as batch
use Rattle.dl_source.specs.declared.tables.Finding.{Finding}
use Rattle.dl_source.specs.declared.tables.Finding.TheVariants.{Row, Error, Break}

-- ---- one key

-- what a table lists under an id
abbrev pub finding_at : Table → List ℕ → Option Finding
finding_at rows id = lookup (bytes_eq id) rows

abbrev pub found_in : Option Table → List ℕ → Result Finding (List ℕ)
found_in None id = Err (codes "no table")
found_in (Some rows) id = ok_or (finding_at rows id) (codes "no row")

-- what tables list under a key, or why they list nothing
abbrev pub found : Tables → Key → Result Finding (List ℕ)
found tables k = found_in (lookup (bytes_eq k.table) tables) k.id

-- the outcome of a key: its row or its error (no answer has that of a break)
abbrev pub outcome_of : Result Finding (List ℕ) → Outcome
outcome_of (Ok (Row v)) = Value v
outcome_of (Ok (Error t)) = KeyError t
outcome_of (Ok (Break t)) = KeyError t
outcome_of (Err t) = KeyError t

-- the text by which a key breaks its batch
abbrev pub break_of : Result Finding (List ℕ) → Option (List ℕ)
break_of (Ok (Row v)) = None
break_of (Ok (Error t)) = None
break_of (Ok (Break t)) = Some t
break_of (Err t) = None

-- ---- the keys of a batch

-- the text of the first key that breaks
abbrev pub first_break : Tables → List Key → Option (List ℕ)
first_break tables [] = None
first_break tables (k ∷ ks) = option_or (break_of (found tables k)) (first_break tables ks)

-- an outcome for each key
abbrev pub outcomes_of : Tables → List Key → List Outcome
outcomes_of tables keys = map (λ k. outcome_of (found tables k)) keys

abbrev pub unless : Option (List ℕ) → List Outcome → BatchAnswer
unless None outcomes = batch.Each outcomes
unless (Some t) outcomes = batch.Break t

-- The one function of tables: the first break among the keys; without one, each key's outcome.
abbrev pub answer_of : Tables → List Key → BatchAnswer
answer_of tables keys = unless (first_break tables keys) (outcomes_of tables keys)
