-- The two texts of a key as one.
use Rattle.std.specs.Prelude.{◌≡◌, ℕ, List, [], ◌∷◌, ◌++◌, length, take, drop}
use Rattle.std.specs.Str.{IsCharBoundary}
use Rattle.dl_values.specs.Key.{Key, IsKey}

-- how many bytes the table has, then the table, then the id
abbrev pub marked : Key → List ℕ
marked k = length k.table ∷ (k.table ++ k.id)

-- the key of such a text
abbrev pub unmarked : List ℕ → Key
unmarked [] = record { table = []; id = [] }
unmarked (count ∷ text) = record { table = take count text; id = drop count text }

-- The text is that of a key. It may be cut after its first byte, and then after the table.
pub record IsMarked (text : List ℕ) : Type 0 where
  pub own : marked (unmarked text) ≡ text
  pub mark : IsCharBoundary text 1
  pub seam : IsCharBoundary (drop 1 text) (length (unmarked text).table)
  pub key : IsKey (unmarked text)
