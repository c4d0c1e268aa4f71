-- The bytes in which a short text stands.
use Rattle.std.specs.Prelude.{◌≡◌, ℕ, ◌≤◌, List, take}
use Rattle.std.specs.Str.{IsUtf8}
use Rattle.dl_values.specs.KeyTexts.{short_bytes}
use Rattle.dl_values.specs.Inside.HashedText.{filled}

-- how many bytes it takes, which are five words of eight
abbrev pub block_bytes : ℕ
block_bytes = 40

-- the first so many of the bytes are a text, which a byte that no text has and zeros fill up
pub record IsShort (bytes : List ℕ) (len : ℕ) : Type 0 where
  pub text : ∥ IsUtf8 (take len bytes) ∥₁
  pub short : len ≤ short_bytes
  pub block : bytes ≡ filled block_bytes (take len bytes)
