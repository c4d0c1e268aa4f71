-- What you open a loader with.
use Rattle.std.specs.Prelude.{◌≡◌, ℕ, ◌<◌, ◌≤◌, List}
use Rattle.dl_cells.specs.Cells.{row_len}
use Rattle.dl_values.specs.Answering.{Answering, IsWithin}
use Rattle.dl_values.specs.Limits.{Limits, Rules}
use Rattle.dl_history.specs.CellNames.{CellNames}
use Rattle.dl_desk.specs.Service.{Service, Answers, AnswersEach, service}
use Rattle.dl_history.specs.declared.fault.StartFault.{StartFault}
use Rattle.dl_history.specs.declared.fault.StartFault.TheVariants.{NoCallers, TooManyCallers, OutOfMemory}

-- what contracts see of an opening: its source, the rules for batches, the number of callers, the loader's set-once
-- cells, and the name of the ledger that counts its events
pub record Opening (S : Type 0) : Type 0 where
  pub source : S
  pub rules : Rules
  pub callers : ℕ
  pub cells : CellNames
  pub ledger : ℕ

-- the most callers of a loader
abbrev pub most_callers : ℕ
most_callers = 32

-- a number of callers that a loader may have
pub record AreCallers (callers : ℕ) : Type 0 where
  pub least : 1 ≤ callers
  pub most : callers ≤ most_callers

-- the fields of an opening, but for its source: its limits, the number of callers, the parts of the ledger, and the loader's set-once cells
pub record OpeningFields : Type 0 where
  pub limits : Limits
  pub callers : ℕ
  pub parts : ℕ
  pub cells : CellNames

-- the rows have room for all calls and cells, and each caller has a part of the ledger
pub record IsOpening (fields : OpeningFields) : Type 0 where
  pub parts_are : fields.parts ≡ fields.callers
  pub callers_are : AreCallers fields.callers
  pub calls_fit : row_len fields.cells.log ≡ fields.limits.max_calls
  pub cells_fit : row_len fields.cells.outcomes ≡ fields.limits.max_cells

-- the fault names the first cause why there can't be this many callers; if there is none, memory ran out
abbrev pub RefusedAs : ℕ → StartFault → Type 0
RefusedAs callers NoCallers = callers ≡ 0
RefusedAs callers TooManyCallers = most_callers < callers
RefusedAs callers OutOfMemory = AreCallers callers

-- what the loader of an opening serves by, if sources answer so
abbrev pub service_of : {S : Type 0} → (S → Answering) → Opening S → Service
service_of answer opening = service opening.rules opening.callers (answer opening.source)

-- The type names the loader of the opening: what the type says of it is what it serves by (its source may answer what the
-- opening's source may, and no more), the number of the ledger's parts, its set-once cells, and the ledger.
pub record Names {S : Type 0} (answer : S → Answering) (opening : Opening S) (own : Service) (parts : ℕ) (cells : CellNames)
    (ledger : ℕ) : Type 0 where
  pub rules : opening.rules ≡ own.rules
  pub callers : opening.callers ≡ own.callers
  pub answers : Answers (answer opening.source) own
  pub no_more : IsWithin own.answer (answer opening.source)
  pub parts_are : opening.callers ≡ parts
  pub cells_are : opening.cells ≡ cells
  pub ledger_is : opening.ledger ≡ ledger

-- what holds of the fields of a loader: it has its number of callers, each with a place to wait and a part of the ledger,
-- and an answer of its source has an outcome for each key, unless it breaks
pub record IsLoader (callers waiters parts : ℕ) (own : Service) : Type 0 where
  pub callers_are : callers ≡ own.callers
  pub waiters_are : waiters ≡ own.callers
  pub parts_are : parts ≡ own.callers
  pub answers : AnswersEach own.answer
