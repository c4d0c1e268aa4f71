-- Bytes that are cut into parts, from the front on.
use Rattle.std.specs.Prelude.{◌≡◌, ℕ, ◌+◌, ◌<◌, ◌≤◌, ◌⊎◌, List, [], ◌∷◌, length, drop}
use Rattle.dl_c_values.specs.declared.codes.TheConstants.{BAD_LENGTHS}

-- the parts: each takes as many bytes as its lengths say, and is made of the front of the bytes
abbrev pub parts : {L X : Type 0} → (L → ℕ) → (List ℕ → L → X) → List ℕ → List L → List X
parts width part bytes [] = []
parts width part bytes (l ∷ ls) = part bytes l ∷ parts width part (drop (width l) bytes) ls

-- how many bytes the lengths take
abbrev pub total_by : {L : Type 0} → (L → ℕ) → List L → ℕ
total_by width [] = 0
total_by width (l ∷ ls) = width l + total_by width ls

-- Why bytes aren't cut into parts, as the first part that can't be made tells: the bytes are too few for it, or it is none, which has a
-- code of its own; or bytes are left behind the last part.
abbrev pub IsFirstFault : {L X : Type 0} → (L → ℕ) → (List ℕ → L → X) → (X → Type 0) → ℕ → List ℕ → List L → ℕ → Type 0
IsFirstFault width part IsPart none bytes [] code = (code ≡ BAD_LENGTHS) × (0 < length bytes)
IsFirstFault width part IsPart none bytes (l ∷ ls) code = ((code ≡ BAD_LENGTHS) × (length bytes < width l))
    ⊎ ((width l ≤ length bytes) × (((code ≡ none) × ¬ (IsPart (part bytes l)))
    ⊎ (IsPart (part bytes l) × IsFirstFault width part IsPart none (drop (width l) bytes) ls code)))
