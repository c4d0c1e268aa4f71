-- A batch as a desk stores it.
use Rattle.std.specs.Prelude.{◌≡◌, ℕ, ◌≤◌, List, [], ◌∷◌, length, take, slice_get, Option, Some, None, Bool, false, bytes_eq}
use Rattle.std.specs.List.{list_any}
use Rattle.dl_values.specs.Key.{Key, key_eq}
use Rattle.dl_desk.specs.declared.reply.End.{End}

-- A stored batch: its members in order, how many of them are shown, and how it ended. The members
-- behind those that are shown are prepared.
pub record StoredBatch : Type 0 where
  pub members : List (Key × ℕ)
  pub seen : ℕ
  pub end : Option End

-- a batch with no members
abbrev pub blank : StoredBatch
blank = record { members = []; seen = 0; end = None }

-- each key stands once
abbrev pub AreApart : List Key → Type 0
AreApart ks = (i : ℕ) (k : Key) → slice_get ks i ≡ Some k → list_any (key_eq k) (take i ks) ≡ false

-- Of the fields of a batch: there is a cell for each key, no more members are shown than there are, each key stands once, and the index
-- has the first of the keys.
pub record AreMembers (keys : List Key) (cells : List ℕ) (seen : ℕ) (index : List Key) : Type 0 where
  pub same : length keys ≡ length cells
  pub within : seen ≤ length cells
  pub once : AreApart keys
  pub indexed : index ≡ take (length index) keys

-- whether the first key is of the table
abbrev pub is_first_of : List ℕ → List Key → Bool
is_first_of table [] = false
is_first_of table (k ∷ ks) = bytes_eq table k.table
