-- What a desk keeps of its tables, where each batch is of one table.
use Rattle.std.specs.Prelude.{◌≡◌, ℕ, ◌<◌, ◌⊎◌, Bool, ◌&&◌, false, true, List, [], length, map, take, slice_get, Option, Some, None, option_map}
use Rattle.std.specs.Prelude.{nat_eq, nat_le, nat_lt, bytes_eq, if◌then◌else◌}
use Rattle.std.specs.List.{list_any}
use Rattle.dl_values.specs.Limits.{Limits, Rules, limit_by}
use Rattle.dl_desk.specs.History.{is_of_table, greatest}
use Rattle.dl_desk.specs.BatchBook.{Batch, BatchBook}
use Rattle.dl_desk.specs.Inside.StoredBatch.{StoredBatch}
use Rattle.dl_desk.specs.Inside.Preparation.{members_of, prepared_batch, shown_batch}
use Rattle.dl_desk.specs.Inside.TableMap.{told_in}
use Rattle.dl_desk.specs.declared.table_book.Newest.{Newest}

-- what contracts see of it: the tables' own limits, what is told of each table's newest batch, and the batches in which
-- something may be prepared
pub record TableBook : Type 0 where
  pub limits : List (List ℕ × ℕ)
  pub newest : List (List (List ℕ × Newest))
  pub touched : List ℕ

-- what is told of a table
abbrev pub told : TableBook → List ℕ → Option Newest
told t = told_in t.newest

-- the book where nothing is prepared
abbrev pub untouched : TableBook → TableBook
untouched t = record { limits = t.limits; newest = t.newest; touched = [] }

-- a book of no batches
abbrev pub AreNoTables : Option TableBook → Type 0
AreNoTables None = Unit {0}
AreNoTables (Some t) = (t.newest ≡ []) × (t.touched ≡ [])

-- batches may mix tables, or are each of one table
abbrev pub rules_of : Limits → Option TableBook → Rules
rules_of limits tables = record { limits = limits; tables = option_map (λ t. t.limits) tables }

-- ---- the newest batch of a table

-- whether the batch is one of the list, and of the table
abbrev pub is_of : List Batch → List ℕ → ℕ → Bool
is_of xs table b = is_of_table table (members_of (slice_get xs b))

-- the newest of the batches that is of the table, as is told of the table
abbrev pub newest_at : List Batch → List ℕ → Option Newest → Option ℕ
newest_at xs table None = None
newest_at xs table (Some e) = if is_of xs table e.latest then Some e.latest else e.before

-- it is told of each table which of the batches is its newest
abbrev pub TellsNewest : List Batch → (List ℕ → Option Newest) → Type 0
TellsNewest xs newest = (table : List ℕ) → greatest (is_of xs table) (length xs) ≡ newest_at xs table (newest table)

-- it is told how many keys a batch of a table may have
abbrev pub TellsLimits : ℕ → TableBook → Type 0
TellsLimits max_batch t = (table : List ℕ) (e : Newest) → told t table ≡ Some e → e.most ≡ limit_by max_batch (Some t.limits) table

-- in no batch that isn't named anything is prepared, and those that are named are there
pub record AreTouched (touched : List ℕ) (stored : List StoredBatch) : Type 0 where
  pub within : (b : ℕ) → list_any (nat_eq b) touched ≡ true → b < length stored
  pub same : (b : ℕ) (x : StoredBatch) → slice_get stored b ≡ Some x → list_any (nat_eq b) touched ≡ false → shown_batch x ≡ prepared_batch x

abbrev pub TouchedBy : Option TableBook → List StoredBatch → Type 0
TouchedBy None stored = Unit {0}
TouchedBy (Some t) stored = AreTouched t.touched stored

-- the batches as they are stored, those that are shown, and those with what is prepared
pub record BothBatches : Type 0 where
  pub stored : List StoredBatch
  pub shown : List Batch
  pub prepared : List Batch

-- of the stored batches so many are shown, and so many are there with what is prepared
abbrev pub both : ℕ → ℕ → List StoredBatch → BothBatches
both shown prepared xs = record { stored = xs; shown = take shown (map shown_batch xs); prepared = take prepared (map prepared_batch xs) }

-- what is kept of the tables tells of the batches that are shown, and of those with what is prepared
pub record AreTables (max_batch : ℕ) (b : BothBatches) (t : TableBook) : Type 0 where
  pub tells_shown : TellsNewest b.shown (told t)
  pub tells_prepared : TellsNewest b.prepared (told t)
  pub limits : TellsLimits max_batch t
  pub touched : AreTouched t.touched b.stored

abbrev pub FitTables : ℕ → BothBatches → Option TableBook → Type 0
FitTables max_batch b None = Unit {0}
FitTables max_batch b (Some t) = AreTables max_batch b t

-- the book that tells another newest batch of the table
pub record Renews (old : TableBook) (table : List ℕ) (e : Newest) (new : TableBook) : Type 0 where
  pub limits : new.limits ≡ old.limits
  pub newest : (q : List ℕ) → told new q ≡ (if bytes_eq table q then Some e else told old q)
  pub touched : new.touched ≡ old.touched

-- the book tells what the old one did
pub record TellsTheSame (old new : TableBook) : Type 0 where
  pub limits : new.limits ≡ old.limits
  pub newest : (q : List ℕ) → told new q ≡ told old q
  pub touched : new.touched ≡ old.touched

-- what is told of a table once the batch was begun for it, after e was told, where these batches are shown
abbrev pub renewed : List Batch → List ℕ → Newest → ℕ → Newest
renewed shown table e number = record { most = e.most; latest = number; before = newest_at shown table (Some e) }

-- what is told of a table for which no batch was begun before the next one
abbrev pub first_newest : ℕ → ℕ → TableBook → List ℕ → Newest
first_newest max_batch next t table = record { most = limit_by max_batch (Some t.limits) table; latest = next; before = None }

-- what the book tells of the table or, where that is nothing, the first thing to tell
abbrev pub IsNewest : ℕ → ℕ → TableBook → List ℕ → Newest → Type 0
IsNewest max_batch next t table e = (told t table ≡ Some e) ⊎ ((told t table ≡ None) × (e ≡ first_newest max_batch next t table))

-- ---- the room of a key

-- the batch, where it isn't sent and has fewer members than the most, and else the next one
abbrev pub open_at : ℕ → ℕ → List Batch → Option ℕ → ℕ
open_at sent most xs None = length xs
open_at sent most xs (Some b) = if nat_le sent b && nat_lt (length (members_of (slice_get xs b))) most then b else length xs

-- the batch that is open for the table, or the next one
abbrev pub open_for : ℕ → List Batch → List ℕ → Newest → ℕ
open_for sent xs table e = open_at sent e.most xs (newest_at xs table (Some e))

-- the book has these batches, of which so many are sent, and each is of one table
pub record IsOf (max_batch sent : ℕ) (xs : List Batch) (limits : List (List ℕ × ℕ)) (book : BatchBook) : Type 0 where
  pub batches : book.batches ≡ xs
  pub sent_is : book.sent ≡ sent
  pub tables : book.rules.tables ≡ Some limits
  pub max_batch_is : book.rules.limits.max_batch ≡ max_batch
