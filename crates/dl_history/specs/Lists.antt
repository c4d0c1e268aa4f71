-- Lists, and sums over them.
use Rattle.std.specs.Prelude.{◌≡◌, ℕ, ◌+◌, Bool, cond, List, [], ◌∷◌, Some, slice_get, nat_eq, if◌then◌else◌}

-- the fact holds of each element
abbrev pub Every : {X : Type 0} → (X → Type 0) → List X → Type 0
Every P [] = Unit {0}
Every P (x ∷ xs) = P x × Every P xs

-- f of each element, added up
abbrev pub total : {X : Type 0} → (X → ℕ) → List X → ℕ
total f [] = 0
total f (x ∷ xs) = f x + total f xs

abbrev pub one_if : Bool → ℕ
one_if b = cond b 1 0

-- x is in the list
abbrev pub Among : {X : Type 0} → X → List X → Type 0
Among x xs = (i : ℕ) × (slice_get xs i ≡ Some x)

-- the places, counted from k, of the elements that are n's, in order
abbrev pub places : {X : Type 0} → (X → ℕ) → ℕ → ℕ → List X → List ℕ
places who n k [] = []
places who n k (x ∷ xs) = if nat_eq (who x) n then k ∷ places who n (k + 1) xs else places who n (k + 1) xs
