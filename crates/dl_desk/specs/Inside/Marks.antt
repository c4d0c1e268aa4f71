-- What holds of the fields of a desk: of what is shown, of what is prepared, and of both.
use Rattle.std.specs.Prelude.{◌≡◌, ℕ, Bool, false, ◌<◌, ◌≤◌, List, [], ◌∷◌, ◌++◌, ◌⊎◌, length, map, set, take, slice_get, Option, Some}
use Rattle.dl_values.specs.Key.{Key}
use Rattle.dl_desk.specs.Inside.StoredBatch.{StoredBatch, blank}
use Rattle.dl_desk.specs.BatchBook.{Batch}
use Rattle.dl_desk.specs.Inside.Preparation.{prepared_batch, shown_batch, empty, Same, AllHeld}
use Rattle.dl_desk.specs.Inside.TableBook.{TableBook, FitTables, both}
use Rattle.dl_desk.specs.declared.desk.Extent.{Extent}

-- the fields of a desk that its two books are read from
pub record DeskFields : Type 0 where
  pub max_batch : ℕ
  pub max_cells : ℕ
  pub tables : Option TableBook
  pub memo : List (Key × ℕ)
  pub batches : List StoredBatch
  pub prepared : Extent
  pub shown : Extent
  pub shown_memo : ℕ
  pub is_prepared : Bool
  pub touched : ℕ
  pub forgotten : ℕ

-- Of the stored batches those that were begun are the book's. The others are empty, and wait to be begun.
pub record IsStored (extent : Extent) (max_cells : ℕ) (stored : List Batch) : Type 0 where
  pub all_sent : extent.sent ≤ extent.begun
  pub all_stored : extent.begun ≤ length stored
  pub few : extent.begun ≤ extent.cells
  pub within : extent.cells ≤ max_cells
  pub spare : (b : ℕ) → extent.begun ≤ b → b < length stored → slice_get stored b ≡ Some empty

-- nothing is prepared that isn't shown
pub record IsShown (d : DeskFields) : Type 0 where
  pub extent : d.prepared ≡ d.shown
  pub all_memo : length d.memo ≡ d.shown_memo
  pub none_touched : d.touched ≡ d.prepared.begun

-- Both books are stored rightly, what is kept of tables tells of both, what is shown of the memo is there, nothing is
-- prepared in batches that are not touched, and without the mark nothing is prepared at all. Both memos hold the keys of all
-- batches that were begun since something was forgotten.
pub record IsDesk (d : DeskFields) : Type 0 where
  pub prepared_book : IsStored d.prepared d.max_cells (map prepared_batch d.batches)
  pub shown_book : IsStored d.shown d.max_cells (map shown_batch d.batches)
  pub later : d.shown.begun ≤ d.prepared.begun
  pub tables : FitTables d.max_batch (both d.shown.begun d.prepared.begun d.batches) d.tables
  pub memo : d.shown_memo ≤ length d.memo
  pub same : Same d.touched d.prepared.begun d.batches
  pub unmarked : d.is_prepared ≡ false → IsShown d
  pub prepared_held : AllHeld d.forgotten d.memo (map prepared_batch d.batches)
  pub shown_held : AllHeld d.forgotten (take d.shown_memo d.memo) (map shown_batch d.batches)

-- the batches stay, or an empty one is added
abbrev pub MakesRoom : List StoredBatch → List StoredBatch → Type 0
MakesRoom old new = (new ≡ old) ⊎ (new ≡ old ++ blank ∷ [])

-- a batch with one more member
abbrev pub more : Batch → Key × ℕ → Batch
more y m = record { members = y.members ++ m ∷ []; end = y.end }

-- a member was prepared in a batch of the list, which may be one that was added
pub record IsAdded (old : List StoredBatch) (number : ℕ) (m : Key × ℕ) (new : List StoredBatch) : Type 0 where
  pub grown : List StoredBatch
  pub grows : MakesRoom old grown
  pub before : StoredBatch
  pub then : StoredBatch
  pub low : number < length grown
  pub at : slice_get grown number ≡ Some before
  pub shown : shown_batch then ≡ shown_batch before
  pub added : prepared_batch then ≡ more (prepared_batch before) m
  pub is : new ≡ set grown number then
