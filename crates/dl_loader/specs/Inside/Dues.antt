-- What the cells of a batch's members are due when the batch ends.
use Rattle.std.specs.Prelude.{◌≡◌, ℕ, List, length, map, Option, Some, None, slice_get, option_map, if◌then◌else◌}
use Rattle.std.specs.Option.{option_or}
use Rattle.dl_values.specs.Key.{Key}
use Rattle.dl_desk.specs.History.{Atom}
use Rattle.dl_desk.specs.Calls.{unfit}
use Rattle.dl_values.specs.declared.outcome.BatchAnswer.{BatchAnswer}
use Rattle.dl_values.specs.declared.outcome.BatchAnswer.TheVariants.{Each, Break}
use Rattle.dl_values.specs.declared.outcome.Outcome.{Outcome}
use Rattle.dl_values.specs.declared.outcome.Outcome.TheVariants.{BatchFailed}
use Rattle.dl_desk.specs.declared.reply.End.{End}
use Rattle.dl_desk.specs.declared.reply.End.TheVariants.{Settled, Failed}
use Rattle.dl_loader.specs.declared.dues.Due.{Due}
use Rattle.dl_desk.specs.declared.event.Call.{Call}
use Rattle.dl_desk.specs.declared.event.Call.TheVariants.{Prime, Settle, Fail}
use Rattle.dl_history.specs.declared.fault.CallFault.{CallFault}
use Rattle.dl_history.specs.declared.fault.CallFault.TheVariants.{WrongKeys}
use Rattle.dl_desk.specs.Legal.{keys_of}
use Rattle.dl_history.specs.Journal.{Cell, waiting}
use Rattle.dl_history.specs.LoaderState.{ShowsEnd}
use Rattle.dl_loader.specs.Refusals.{same_keys}
use Rattle.dl_history.specs.Faults.{call_fault}

-- The refusal of an end of a batch by a job with these keys: the batch may not end, or its keys are others.
abbrev pub end_refusal : List Atom → ℕ → List Key → Option CallFault
end_refusal history b keys = option_or (option_map call_fault (unfit history b)) (if same_keys keys (keys_of history b) then None else Some WrongKeys)

-- how an answer of its source ends a batch
abbrev pub end_as : BatchAnswer → End
end_as (Each os) = Settled
end_as (Break text) = Failed

-- the outcome that a call brings the cell at a place of those that it ends
abbrev pub outcome_by : Call → ℕ → Option Outcome
outcome_by (Prime k o) i = Some o
outcome_by (Settle b os) i = slice_get os i
outcome_by (Fail b fault) i = Some (BatchFailed fault)
outcome_by call i = None

-- the dues of cells in order: each is what the call brings its member, with the place of the call
pub record AreDue (call : Call) (at : ℕ) (cells : List ℕ) (dues : List Due) : Type 0 where
  pub cells_are : map (λ d. d.cell) dues ≡ cells
  pub ends_are : (j : ℕ) (d : Due) → slice_get dues j ≡ Some d → (outcome_by call j ≡ Some d.ending.outcome) × (d.ending.at ≡ at)

-- each of these cells waits, and none is there twice
pub record CanEnd (cells : List ℕ) (before : List Cell) : Type 0 where
  pub waits : (j c : ℕ) → slice_get cells j ≡ Some c → slice_get before c ≡ Some waiting
  pub distinct : (i j c : ℕ) → slice_get cells i ≡ Some c → slice_get cells j ≡ Some c → i ≡ j

-- the cells have got their dues, and each other cell is as it was
pub record AreGiven (dues : List Due) (before now : List Cell) : Type 0 where
  pub long : length now ≡ length before
  pub ended : (j : ℕ) (d : Due) (x : Cell) → slice_get dues j ≡ Some d → slice_get now d.cell ≡ Some x → ShowsEnd (Some d.ending) x.mark x.shows
  pub others : (c : ℕ) → ((j : ℕ) (d : Due) → slice_get dues j ≡ Some d → d.cell ≡ c → ⊥) → slice_get now c ≡ slice_get before c
