-- The first item that something holds of, in a list and in a list of lists.
use Rattle.std.specs.Prelude.{◌≡◌, ℕ, ◌<◌, List, Some}
use Rattle.std.specs.List.{slice_get}

-- item n is the first that is bad
pub record IsFirst {A : Type 0} (Bad : A → Type 0) (xs : List A) (n : ℕ) : Type 0 where
  pub item : A
  pub there : slice_get xs n ≡ Some item
  pub bad : Bad item
  pub first : (m : ℕ) (x : A) → m < n → slice_get xs m ≡ Some x → Bad x → ⊥

-- some item is bad
abbrev pub HasOne : {A : Type 0} → (A → Type 0) → List A → Type 0
HasOne {A} Bad xs = (n : ℕ) × (x : A) × (slice_get xs n ≡ Some x) × Bad x

-- item m of row n is the first that is bad: no row before has one, and in its row it is the first
pub record IsFirstIn {A : Type 0} (Bad : A → Type 0) (rows : List (List A)) (n m : ℕ) : Type 0 where
  pub row : List A
  pub there : slice_get rows n ≡ Some row
  pub in_row : IsFirst Bad row m
  pub before : (k : ℕ) (r : List A) → k < n → slice_get rows k ≡ Some r → HasOne Bad r → ⊥
