-- What is prepared in the stored batches, and what is shown of them.
use Rattle.std.proofs.Common.{◌≡◌, ◌∙◌, sym, ap, ℕ, zero, suc, ◌+◌, ◌<◌, ◌≤◌, inl, inr, List, [], ◌∷◌, ◌++◌, length, map, set, Option, Some, slice_get, get_or}
use Rattle.std.proofs.Common.{refl, arith}
use Rattle.std.proofs.lemmas.Bool.{cases_lt, cases_eq}
use Rattle.std.proofs.lemmas.List.{length-map}
use Rattle.std.proofs.lemmas.Option.{slice_get_read}
use Rattle.dl_desk.specs.Inside.StoredBatch.{StoredBatch}
use Rattle.dl_desk.specs.BatchBook.{Batch}
use Rattle.dl_desk.specs.Inside.Preparation.{prepared_batch, shown_batch, Same}

-- ---- one place of a list

pub get-append_left : {A : Type 0} (xs ys : List A) (b : ℕ) → b < length xs → slice_get (xs ++ ys) b ≡ slice_get xs b
get-append_left [] ys b low = absurd (omega arith)
get-append_left (x ∷ xs) ys zero low = refl
get-append_left (x ∷ xs) ys (suc b) low = get-append_left xs ys b (omega arith)

pub get-append_last : {A : Type 0} (xs : List A) (y : A) (b : ℕ) → b ≡ length xs → slice_get (xs ++ y ∷ []) b ≡ Some y
get-append_last [] y zero is = refl
get-append_last [] y (suc b) is = absurd (omega arith)
get-append_last (x ∷ xs) y zero is = absurd (omega arith)
get-append_last (x ∷ xs) y (suc b) is = get-append_last xs y b (omega arith)

pub get-set_same : {A : Type 0} (xs : List A) (n : ℕ) (x : A) → n < length xs → slice_get (set xs n x) n ≡ Some x
get-set_same [] n x low = absurd (omega arith)
get-set_same (y ∷ xs) zero x low = refl
get-set_same (y ∷ xs) (suc n) x low = get-set_same xs n x (omega arith)

pub get-set_other : {A : Type 0} (xs : List A) (n b : ℕ) (x : A) → (b ≡ n → ⊥) → slice_get (set xs n x) b ≡ slice_get xs b
get-set_other [] n b x other = refl
get-set_other (y ∷ xs) zero zero x other = absurd (other refl)
get-set_other (y ∷ xs) zero (suc b) x other = refl
get-set_other (y ∷ xs) (suc n) zero x other = refl
get-set_other (y ∷ xs) (suc n) (suc b) x other = get-set_other xs n b x (λ e. other (omega arith))

-- a write that a function doesn't see
pub map-set_unseen : {A B : Type 0} (f : A → B) (xs : List A) (n : ℕ) (x y : A) → slice_get xs n ≡ Some x → f y ≡ f x → map f (set xs n y) ≡ map f xs
map-set_unseen f [] n x y at same = refl
map-set_unseen {A} f (z ∷ xs) zero x y at same = let is : ◌≡◌ {A = Option A} (Some z) (Some x) = at in let e : z ≡ x = cc in rw (same, ← e) refl
map-set_unseen f (z ∷ xs) (suc n) x y at same = rw (map-set_unseen f xs n x y at same) refl

-- ---- ranges

pub same_each : (xs : List StoredBatch) → ((b : ℕ) (x : StoredBatch) → slice_get xs b ≡ Some x → shown_batch x ≡ prepared_batch x)
    → map shown_batch xs ≡ map prepared_batch xs
same_each [] each = refl
same_each (x ∷ xs) each = rw (each 0 x refl, same_each xs (λ b. each (suc b))) refl

-- where the range has run out, nothing is prepared anywhere
pub same_all : (from to : ℕ) (xs : List StoredBatch) → to ≤ from → Same from to xs → map shown_batch xs ≡ map prepared_batch xs
same_all from to xs done same = same_each xs (λ b x at. elim (cases_lt b from)
    [ inl below ↦ same b (inl below) x at | inr above ↦ same b (inr (omega arith)) x at ])

-- one more batch of the range was cut or shown
pub same_step : (n to : ℕ) (xs : List StoredBatch) (y : StoredBatch) → n < length xs → shown_batch y ≡ prepared_batch y → Same n to xs
    → Same (n + 1) to (set xs n y)
same_step n to xs y low done same b outside x at = elim (cases_eq b n) [
  | inl e ↦ let is : slice_get (set xs n y) b ≡ Some y = rw e (get-set_same xs n y low) in let s : ◌≡◌ {A = Option StoredBatch} (Some y) (Some x) =
      sym is ∙ at in let f : y ≡ x = cc in rw (← f) done
  | inr ne ↦ same b (elim outside [ inl below ↦ inl (omega arith) | inr above ↦ inr above ]) x (sym (get-set_other xs n b y ne) ∙ at)
]

-- two lists with the same batches are equally long
pub same_length : (f g : StoredBatch → Batch) (xs ys : List StoredBatch) → map f xs ≡ map g ys → length xs ≡ length ys
same_length f g xs ys same = sym (length-map xs f) ∙ (ap length same ∙ length-map ys g)

-- a turn of the loop that cuts or shows: the batch at n was x and is y
pub cut_turn : (f : StoredBatch → Batch) (n to len : ℕ) (xs first : List StoredBatch) (x y : StoredBatch) → to ≤ len → len ≡ length first → n < to
    → x ≡ get_or xs n x
    → shown_batch y ≡ prepared_batch y → f y ≡ f x
    → Same n to xs × (map f xs ≡ map f first) → Same (n + 1) to (set xs n y) × (map f (set xs n y) ≡ map f first)
cut_turn f n to len xs first x y within len_is below read done unseen inv =
    let low : n < length xs = let e = same_length f f xs first inv.1 in omega arith in
    let at : slice_get xs n ≡ Some x = slice_get_read xs (length xs) n x refl low read in
    (same_step n to xs y low done inv.0, map-set_unseen f xs n x y at unseen ∙ inv.1)
