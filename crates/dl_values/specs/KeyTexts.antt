-- Bytes that are the texts of a key.
use Rattle.std.specs.Prelude.{ℕ, List}
use Rattle.std.specs.Str.{IsUtf8}
use Rattle.dl_values.specs.Key.{Key, IsKey}

-- two texts of UTF-8
pub record AreTexts (first second : List ℕ) : Type 0 where
  pub first_is : IsUtf8 first
  pub second_is : IsUtf8 second

-- two texts of UTF-8, with lengths that a key allows
pub record IsKeyText (k : Key) : Type 0 where
  pub table : IsUtf8 k.table
  pub id : IsUtf8 k.id
  pub lengths : IsKey k

-- the most bytes of a short text
abbrev pub short_bytes : ℕ
short_bytes = 39
