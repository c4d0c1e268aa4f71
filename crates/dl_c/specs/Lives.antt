-- Opening a desk.
use Rattle.std.specs.Prelude.{◌≡◌, ℕ, ◌<◌, ◌⊎◌, List, [], None, true, false}
use Rattle.dl_values.specs.Limits.{Limits, AreLimits, mixed, largest_limit}
use Rattle.dl_values.specs.TableLimits.{fault_of}
use Rattle.dl_values.specs.declared.table_limits.TableLimit.{TableLimit}
use Rattle.dl_desk.specs.BatchBook.{StandsFor}
use Rattle.dl_c_values.specs.declared.codes.TheConstants.{DONE, OUT_OF_MEMORY, BAD_LIMIT, OPEN}
use Rattle.dl_c.specs.declared.handle.Handle.{Handle}
use Rattle.dl_c_values.specs.declared.tables.NamedLimit.{NamedLimit}
use Rattle.dl_c.specs.Handles.{book_of}
use Rattle.dl_c_values.specs.Tables.{AreNames, AreLimitsOf, IsTablesFault, tables_of}

-- the limits of a desk, which takes as many calls as may be
abbrev pub limits_of : ℕ → ℕ → Limits
limits_of max_batch max_cells = record { max_batch = max_batch; max_cells = max_cells; max_calls = largest_limit }

-- A new desk: its handle is open, and its history is empty.
pub record IsNew (limits : Limits) (h : Handle) : Type 0 where
  pub is_open : h.is_open ≡ true
  pub are_limits : AreLimits limits
  pub rules : (book_of h).rules ≡ mixed limits
  pub stands : StandsFor (book_of h) []

-- Why no desk is opened: a number is no limit, or memory is short.
abbrev pub IsOpenFault : Limits → ℕ → Type 0
IsOpenFault limits code = ((code ≡ BAD_LIMIT) × ¬ (AreLimits limits)) ⊎ ((code ≡ OUT_OF_MEMORY) × AreLimits limits)

-- the answer to an open
pub record AnswersOpen (limits : Limits) (code : ℕ) (old new : Handle) : Type 0 where
  pub open_before : old.is_open ≡ true → (code ≡ OPEN) × (new ≡ old)
  pub done : old.is_open ≡ false → code ≡ DONE → IsNew limits new
  pub refused : old.is_open ≡ false → DONE < code → IsOpenFault limits code × (new ≡ old)

-- ---- a desk by table

-- A new desk of which each batch is of one table: its handle is open, and its history is empty.
pub record IsNewByTable (limits : Limits) (tables : List TableLimit) (h : Handle) : Type 0 where
  pub is_open : h.is_open ≡ true
  pub are_limits : AreLimits limits
  pub accepted : fault_of tables ≡ None
  pub limits_so : (book_of h).rules.limits ≡ limits
  pub tables_so : AreLimitsOf (book_of h).rules.tables tables
  pub stands : StandsFor (book_of h) []

-- Why no desk by table is opened: a number is no limit, or the tables have none.
abbrev pub IsByTableFault : Limits → List ℕ → List NamedLimit → ℕ → Type 0
IsByTableFault limits names ls code = ((code ≡ BAD_LIMIT) × ¬ (AreLimits limits)) ⊎ (AreLimits limits × IsTablesFault names ls code)

-- the answer to an open by table
pub record AnswersByTable (limits : Limits) (names : List ℕ) (ls : List NamedLimit) (code : ℕ) (old new : Handle) : Type 0 where
  pub open_before : old.is_open ≡ true → (code ≡ OPEN) × (new ≡ old)
  pub are_names : old.is_open ≡ false → code ≡ DONE → AreNames names ls
  pub done : old.is_open ≡ false → code ≡ DONE → IsNewByTable limits (tables_of names ls) new
  pub refused : old.is_open ≡ false → DONE < code → IsByTableFault limits names ls code × (new ≡ old)
