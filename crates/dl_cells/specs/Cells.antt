-- What a row of set-once cells and a reader of one of them are in clauses. To other crates the names are opaque: all
-- that they know of `row_len` and `cell_of` is that these are functions of a row's name.
use Rattle.std.specs.Prelude.{◌≡◌, ℕ, ◌/◌, ◌%◌, List, [], Option, IfSome, slice_index}

-- which cell it is: the cell that its segment is kept in, and the place inside the segment
pub record CellName : Type 0 where
  pub segment : ℕ
  pub place : ℕ

-- which row it is: the cells that its segments are kept in, and how many cells it has
pub record RowName : Type 0 where
  pub segments : List ℕ
  pub cells : ℕ

-- the name of a row without cells, for a type that names no row
unfoldable pub no_row : RowName
no_row = record { segments = []; cells = 0 }

-- how many cells a row has
unfoldable pub row_len : RowName → ℕ
row_len row = row.cells

-- the name of cell i of a row
unfoldable pub cell_of : RowName → ℕ → CellName
cell_of row i = record { segment = slice_index row.segments (i / 32); place = i % 32 }

-- what a reader is: the cell that it reads, and that cell's value once the reader knows it
pub record Reader (X : Type 0) : Type 0 where
  pub cell : CellName
  pub known : Option X

-- x is what is known, if anything is known
abbrev pub Agrees : {X : Type 0} → Option X → X → Type 0
Agrees known x = IfSome known (λ y. y ≡ x)
