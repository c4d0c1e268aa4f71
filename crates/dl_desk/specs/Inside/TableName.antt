-- The names of tables, as a desk finds them.
use Rattle.std.specs.Prelude.{ℕ, ◌+◌, ◌*◌, ◌%◌, ◌^◌, List}
use Rattle.std.specs.declared.cmp.Ordering.{Ordering}
use Rattle.std.specs.List.{fold}
use Rattle.std.specs.Ordering.{then_cmp, on, nat_cmp}
use Rattle.std.specs.Cmp.Lexicographic.{slice_cmp}

-- the number with one more byte
abbrev pub with_byte : ℕ → ℕ → ℕ
with_byte number byte = ((number * 1099511628211) % 2 ^ 64 + byte) % 2 ^ 64

-- the number that the bytes of a name make
abbrev pub number_of : List ℕ → ℕ
number_of = fold with_byte 0

-- the place where a table is found, of 32
abbrev pub place_of : List ℕ → ℕ
place_of name = number_of name % 32

-- names are ordered by their numbers, and where these are one by their bytes
abbrev pub name_cmp : List ℕ → List ℕ → Ordering
name_cmp = then_cmp (on number_of nat_cmp) (slice_cmp nat_cmp)
