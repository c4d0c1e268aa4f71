-- The names of an object's members, with their values in the same places.
use Rattle.std.specs.Prelude.{ℕ, List, [], ◌∷◌, ◌++◌, Bool, true, ◌&&◌}
use Rattle.std.specs.Ordering.{nat_cmp, is_lt}
use Rattle.std.specs.Cmp.Lexicographic.{slice_cmp}
use Rattle.serde_json.specs.Data.{Data, string, Members, no_members, member}
use Rattle.serde_json.specs.Written.{compact_text}

-- whether the first name is less than the second
abbrev pub is_less : List ℕ → List ℕ → Bool
is_less m n = is_lt (slice_cmp nat_cmp m n)

-- whether each name is greater than the one before, the first than this one
abbrev pub ascend_from : List ℕ → List (List ℕ) → Bool
ascend_from m [] = true
ascend_from m (n ∷ names) = is_less m n && ascend_from n names

-- whether each name is greater than the one before
abbrev pub are_ascending : List (List ℕ) → Bool
are_ascending [] = true
are_ascending (n ∷ names) = ascend_from n names

-- a name as compact JSON writes it, with its colon
abbrev pub label : List ℕ → List ℕ
label name = compact_text (string name) ++ 58 ∷ []

-- each value under the name in its place
abbrev pub zipped : List (List ℕ) → List Data → Members
zipped [] ds = no_members
zipped (n ∷ names) [] = no_members
zipped (n ∷ names) (d ∷ ds) = member n d (zipped names ds)
