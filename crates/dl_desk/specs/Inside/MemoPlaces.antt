-- Where the memo holds a key.
use Rattle.std.specs.Prelude.{◌≡◌, ℕ, List, IsSomeAnd, slice_get}
use Rattle.dl_values.specs.Key.{Key}

-- the memo holds the key at the place
abbrev pub IsAt : List (Key × ℕ) → ℕ → Key → Type 0
IsAt memo place k = IsSomeAnd (slice_get memo place) (λ e. e.0 ≡ k)
