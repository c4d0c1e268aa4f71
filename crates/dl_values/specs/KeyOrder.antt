-- The order of keys, and what a hash of one reads.
use Rattle.std.specs.Prelude.{ℕ, List, [], ◌∷◌}
use Rattle.std.specs.declared.cmp.Ordering.{Ordering}
use Rattle.std.specs.Ordering.{then_cmp, on, nat_cmp}
use Rattle.std.specs.Cmp.Lexicographic.{slice_cmp}
use Rattle.dl_values.specs.Key.{Key}
use Rattle.dl_values.specs.Inside.KeyText.{marked}
use Rattle.dl_values.specs.Inside.HashedText.{hashed}

-- keys go by table, and keys of one table by id, byte by byte
abbrev pub key_cmp : Key → Key → Ordering
key_cmp = then_cmp (on (λ k. k.table) (slice_cmp nat_cmp)) (on (λ k. k.id) (slice_cmp nat_cmp))

-- a hash reads the number of bytes of the table, and then both texts, as one text
abbrev pub key_input : Key → List (List ℕ)
key_input k = hashed (marked k) ∷ []
